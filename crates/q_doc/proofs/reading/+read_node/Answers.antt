use Rattle.std.proofs.Common.{◌≡◌, ◌+◌, ◌-◌, ◌<◌, [], ◌∷◌, ◌++◌, length, Some, None, insert, IfSome, refl, sym, ap, ◌∙◌, subst, arith, rules}
use Rattle.std.specs.Str.{IsUtf8}
use Rattle.json.specs.Json as grammar
use Rattle.json.specs.Json.{parse_map, after_end_array, read_key, items, members, value}
use Rattle.json.specs.Token.{Token}
use Rattle.json.specs.Reads.{token_of}
use Rattle.json.proofs.Grammar.{value_is, value-begin_array, value-begin_object, read_key-shorter, items_more, items_end, members_more, members_end}
use Rattle.q_doc.specs.Tree.{text}
use Rattle.q_doc.specs.Reading.{BEYOND, whole_in, IsIndexFor}
use Rattle.q_doc.proofs.ReadingLemmas.{items_then, one_more_read, HaveTrees-push, items_read, items_depth-push, members_then, no_members_yet, one_more_member_read, gathered_none, gathered_more, gathered_all, gathered_rise, members_depth-insert, MembersHaveTexts-insert, tree_in-number, tree_in-array, tree_in-object}
use Rattle.q_doc.proofs.ConvertLemmas.{ItemsHaveTexts-push}
use Rattle.q_doc.proofs.reading.+read_node.Goals as goal

pub read_node-returns-in_ok-owned-in-String-clause-ok : goal.read_node-returns-in_ok-owned-in-String-clause-ok
read_node-returns-in_ok-owned-in-String-clause-ok t c =
    let first : c.args.reader.now ≡ token_of c.in_ok-token.token ∷ c.next.new.self = grind arith in
    let is : c.args.reader.now ≡ Token.string c.in-String.text.now ∷ c.next.new.self = grind (arith, first) in
    let found = ap (value (c.args.depth + BEYOND)) is ∙ value_is (c.args.depth + BEYOND) _ in
    (grammar.string c.in-String.text.now, found, ap (λ s. Some (text s)) (sym c.in_ok-owned-in-String.ensures.value))

pub read_node-returns-in-Bool-clause-ok : goal.read_node-returns-in-Bool-clause-ok
read_node-returns-in-Bool-clause-ok t c =
    let first : c.args.reader.now ≡ token_of c.in_ok-token.token ∷ c.next.new.self = grind arith in
    let is : c.args.reader.now ≡ Token.boolean c.in-Bool.value ∷ c.next.new.self = grind (arith, first) in
    let found = ap (value (c.args.depth + BEYOND)) is ∙ value_is (c.args.depth + BEYOND) _ in
    (grammar.boolean c.in-Bool.value, found, refl)

pub read_node-returns-in-Null-clause-ok : goal.read_node-returns-in-Null-clause-ok
read_node-returns-in-Null-clause-ok t c =
    let first : c.args.reader.now ≡ token_of c.in_ok-token.token ∷ c.next.new.self = grind arith in
    let is : c.args.reader.now ≡ Token.null ∷ c.next.new.self = grind (arith, first) in
    let found = ap (value (c.args.depth + BEYOND)) is ∙ value_is (c.args.depth + BEYOND) _ in
    (grammar.null, found, refl)

pub read_node-returns-in-Some-clause-ok : goal.read_node-returns-in-Some-clause-ok
read_node-returns-in-Some-clause-ok t c =
    let first : c.args.reader.now ≡ token_of c.in_ok-token.token ∷ c.next.new.self = grind arith in
    let is : c.args.reader.now ≡ Token.number c.in-Number.text.now ∷ c.next.new.self = grind (arith, first) in
    let found = ap (value (c.args.depth + BEYOND)) is ∙ value_is (c.args.depth + BEYOND) _ in
    let written = tree_in-number c.in-Number.text.now c.in-Some.number (ap whole_in (sym c.as_bytes.ensures.value) ∙ c.in-Some.ensures) in
    (grammar.number c.in-Number.text.now, found, search (rules, written))

pub read_node-returns-in_ok-items-in-BeginArray-clause-ok : goal.read_node-returns-in_ok-items-in-BeginArray-clause-ok
read_node-returns-in_ok-items-in-BeginArray-clause-ok t c =
    let ts = c.next.new.self in
    let first : c.args.reader.now ≡ token_of c.in_ok-token.token ∷ ts = grind arith in
    let is : c.args.reader.now ≡ Token.begin_array ∷ ts = grind (arith, first) in
    let less : c.args.depth + BEYOND - 1 ≡ c.args.depth - 1 + BEYOND = omega arith in
    let inside = c.in_ok-items-in-BeginArray.ensures.ok in
    let found = ap (value (c.args.depth + BEYOND)) is ∙ value-begin_array (c.args.depth + BEYOND) ts (omega arith) ∙ ap (λ n. parse_map grammar.array (items (value n) (length ts) ts)) less ∙ ap (parse_map grammar.array) inside.1 in
    (grammar.array inside.0, found, tree_in-array inside.0 _ inside.2)

pub read_node-returns-in_ok-members-in-BeginObject-clause-ok : goal.read_node-returns-in_ok-members-in-BeginObject-clause-ok
read_node-returns-in_ok-members-in-BeginObject-clause-ok t c =
    let ts = c.next.new.self in
    let first : c.args.reader.now ≡ token_of c.in_ok-token.token ∷ ts = grind arith in
    let is : c.args.reader.now ≡ Token.begin_object ∷ ts = grind (arith, first) in
    let less : c.args.depth + BEYOND - 1 ≡ c.args.depth - 1 + BEYOND = omega arith in
    let inside = c.in_ok-members-in-BeginObject.ensures.ok in
    let found = ap (value (c.args.depth + BEYOND)) is ∙ value-begin_object (c.args.depth + BEYOND) ts (omega arith) ∙ ap (λ n. parse_map grammar.object (members (value n) (length ts) ts)) less ∙ ap (parse_map grammar.object) inside.1 in
    (grammar.object inside.0, found, tree_in-object inside.0 _ inside.2)

pub read_items-items-preserved : goal.read_items-items-preserved
read_items-items-preserved t c =
    let p = value (c.args.depth + BEYOND) in
    let l = c.items in
    let n = l.invariant.0 in
    let js = l.invariant.1 in
    let going : (after_end_array l.reader ≡ None) × (c.take_end_array.new.self ≡ l.reader) = grind arith in
    let done = c.in_ok-item.ensures in
    let r = c.read_node.new.reader in
    let j = done.ok.0 in
    let less : length r < length l.reader = rw (← going.1) done.shorter in
    let here : p l.reader ≡ Some (j, r) = ap p (sym going.1) ∙ done.ok.1 in
    let turn = items_more p n l.reader r j (omega (arith, l.invariant.2)) going.0 here in (
      n - 1,
      js ++ j ∷ [],
      omega (arith, l.invariant.2),
      l.invariant.3 ∙ ap (parse_map (items_then js)) turn ∙ one_more_read js j _,
      rw c.in_ok-push.ensures.items (HaveTrees-push js l.found.items j _ l.invariant.4 done.ok.2),
      rw c.in_ok-push.ensures.items (ItemsHaveTexts-push l.found.items _ l.invariant.5 done.texts),
      rw c.in_ok-push.ensures.items (items_depth-push l.found.items _ _ l.invariant.6 done.nests),
      omega (arith, l.invariant.7),
    )

pub read_items-returns-clause-ok : goal.read_items-returns-clause-ok
read_items-returns-clause-ok t c =
    let p = value (c.args.depth + BEYOND) in
    let l = c.items in
    let n = l.invariant.0 in
    let js = l.invariant.1 in
    let r = c.take_end_array.new.self in (
      items_then js grammar.no_items,
      l.invariant.3 ∙ ap (parse_map (items_then js)) (items_end p n l.reader r l.invariant.2 (grind arith)),
      rw c.trim_capacity.ensures (items_read js l.found.items l.invariant.4),
    )

pub read_members-members-init : goal.read_members-members-init
read_members-members-init t c =
    let all = members (value (c.args.depth + BEYOND)) (length c.args.reader.now) c.args.reader.now in
    (length c.args.reader.now, [], omega arith, no_members_yet all, rw c.in_ok-found.ensures.items gathered_none, rw c.in_ok-found.ensures.items tt, rw c.in_ok-found.ensures.items (omega arith), omega arith)

pub read_members-index_for-requires : goal.read_members-index_for-requires
read_members-index_for-requires t c =
    let l = c.members in
    rw c.deref.ensures.value (gathered_rise l.invariant.1 l.found.items l.invariant.4)

pub read_members-members-preserved : goal.read_members-members-preserved
read_members-members-preserved t c =
    let p = value (c.args.depth + BEYOND) in
    let l = c.members in
    let n = l.invariant.0 in
    let js = l.invariant.1 in
    let k = c.in-Some.name.now in
    let s = c.next_key.new.self in
    let named : read_key l.reader ≡ Some (Some k, s) = grind arith in
    let r = c.read_node.new.reader in
    let less = read_key-shorter l.reader (Some k) s named in
    let done = c.in_ok-node.ensures in
    let j = done.ok.0 in
    let index = c.in_ok-index.index in
    let turn = members_more p n k l.reader s r j (omega (arith, l.invariant.2)) named done.ok.1 in
    let copied : c.in_ok-key.key ≡ k = c.in_ok-key.ensures.value in
    let put : c.insert.new.self.items ≡ insert l.found.items index (k, c.in_ok-node.node) =
    c.in_ok-insert.ensures.items ∙ ap (λ name. insert l.found.items index (name, c.in_ok-node.node)) copied in
    let chosen : c.index_for.result ≡ Some index = grind arith in
    let spot : IsIndexFor c.as_bytes.result.now index c.deref.result.now = subst (λ o. IfSome o (λ q. IsIndexFor c.as_bytes.result.now q c.deref.result.now)) chosen c.index_for.ensures.index in
    let here : IsIndexFor k index l.found.items = rw (c.as_bytes.ensures.value, c.deref.ensures.value) at spot in (
      n - 1,
      js ++ (k, j) ∷ [],
      omega (arith, l.invariant.2),
      l.invariant.3 ∙ ap (parse_map (members_then js)) turn ∙ one_more_member_read js k j _,
      rw put (gathered_more js l.found.items k j _ index l.invariant.4 done.ok.2 here),
      rw put (MembersHaveTexts-insert l.found.items index k _ l.invariant.5 (subst IsUtf8 copied c.in_ok-key.ensures.utf8) done.texts),
      rw put (members_depth-insert l.found.items index k _ _ l.invariant.6 done.nests),
      omega (arith, l.invariant.7),
    )

pub read_members-returns-clause-ok : goal.read_members-returns-clause-ok
read_members-returns-clause-ok t c =
    let p = value (c.args.depth + BEYOND) in
    let l = c.members in
    let n = l.invariant.0 in
    let js = l.invariant.1 in
    let r = c.next_key.new.self in (
      members_then js grammar.no_members,
      l.invariant.3 ∙ ap (parse_map (members_then js)) (members_end p n l.reader r l.invariant.2 (grind arith)),
      rw c.trim_capacity.ensures (gathered_all js l.found.items l.invariant.4),
    )
