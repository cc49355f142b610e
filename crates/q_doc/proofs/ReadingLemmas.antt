-- Elements and members that are read one after another, and where a member goes.
use Rattle.std.proofs.Common.{◌≡◌, ℕ, ℤ, zero, suc, ◌-◌, ◌<◌, List, [], ◌∷◌, ◌++◌, length, get_or, drop, ◌≤◌, Option, Some, None, option_map, option_and_then, Less, Greater, nat_cmp, refl, sym, ap, ◌∙◌, subst, arith}
use Rattle.std.specs.Prelude.{insert, ⊤}
use Rattle.std.specs.Ordering.{ordering_reverse}
use Rattle.std.specs.Cmp.Lexicographic.{slice_cmp}
use Rattle.std.proofs.lemmas.Str.{is_utf8-from_IsUtf8}
use Rattle.std.proofs.lemmas.Cmp.{nat_list_cmp_total}
use Rattle.json.specs.Json as grammar
use Rattle.json.specs.Json.{parse_map}
use Rattle.json.specs.Token.{Token}
use Rattle.json.specs.Lex.{tokens}
use Rattle.serde_json.specs.Data as json
use Rattle.serde_json.specs.Data.{put}
use Rattle.serde_json.specs.Find.{as_i64}
use Rattle.serde_json.specs.Read.{read, of_json, of_items, of_members, number_of}
use Rattle.q_doc.specs.Tree.{Tree, number, array, object, Items, Members, no_members, member, items_of, members_of, depth, items_depth, members_depth}
use Rattle.std.specs.Str.{IsUtf8}
use Rattle.q_doc.specs.Document.{PrecedesMembers, AreMembers, HasTexts, MembersHaveTexts}
use Rattle.q_doc.specs.Found.{whole, whole_items, whole_members}
use Rattle.q_doc.specs.Reading.{tree_in, items_in, members_in, whole_in, HoldsWhole, IsIndexFor}
use Rattle.q_doc.proofs.ReadData.{of_option_map, of_and_then, MembersAreRead, read_value, read_put}
use Rattle.q_doc.proofs.WholeLemmas.{members_whole}

-- ---- elements

-- these elements, and then the others
abbrev pub items_then : List grammar.Json → grammar.Items → grammar.Items
items_then [] rest = rest
items_then (j ∷ js) rest = grammar.item j (items_then js rest)

items_then-item : (js : List grammar.Json) (j : grammar.Json) (rest : grammar.Items) → items_then js (grammar.item j rest) ≡ items_then (js ++ j ∷ []) rest
items_then-item [] j rest = refl
items_then-item (i ∷ js) j rest = ap (grammar.item i) (items_then-item js j rest)

pub one_more_read : (js : List grammar.Json) (j : grammar.Json) (r : Option (grammar.Items × List Token)) → parse_map (items_then js) (parse_map (grammar.item j) r) ≡ parse_map (items_then (js ++ j ∷ [])) r
one_more_read js j None = refl
one_more_read js j (Some p) = ap (λ i. Some (i, p.1)) (items_then-item js j p.0)

-- each element has its tree
abbrev pub HaveTrees : List grammar.Json → List Tree → Type 0
HaveTrees [] [] = ⊤
HaveTrees [] (t ∷ ts) = ⊥
HaveTrees (j ∷ js) [] = ⊥
HaveTrees (j ∷ js) (t ∷ ts) = (tree_in j ≡ Some t) × HaveTrees js ts

pub HaveTrees-push : (js : List grammar.Json) (ts : List Tree) (j : grammar.Json) (t : Tree) → HaveTrees js ts → tree_in j ≡ Some t → HaveTrees (js ++ j ∷ []) (ts ++ t ∷ [])
HaveTrees-push [] [] j t h e = (e, tt)
HaveTrees-push [] (u ∷ ts) j t h e = absurd h
HaveTrees-push (i ∷ js) [] j t h e = absurd h
HaveTrees-push (i ∷ js) (u ∷ ts) j t h e = (h.0, HaveTrees-push js ts j t h.1 e)

pub items_read : (js : List grammar.Json) (ts : List Tree) → HaveTrees js ts → items_in (items_then js grammar.no_items) ≡ Some (items_of ts)
items_read [] [] h = refl
items_read [] (t ∷ ts) h = absurd h
items_read (j ∷ js) [] h = absurd h
items_read (j ∷ js) (t ∷ ts) h =
    let first = of_and_then whole (of_json j) t h.0 in
    let rest = of_and_then whole_items (of_items (items_then js grammar.no_items)) (items_of ts) (items_read js ts h.1) in
    rw (first.1, rest.1, first.2, rest.2)

-- ---- members

-- these members, and then the others
abbrev pub members_then : List (List ℕ × grammar.Json) → grammar.Members → grammar.Members
members_then [] rest = rest
members_then (m ∷ ms) rest = grammar.member m.0 m.1 (members_then ms rest)

members_then-member : (ms : List (List ℕ × grammar.Json)) (k : List ℕ) (j : grammar.Json) (rest : grammar.Members) → members_then ms (grammar.member k j rest) ≡ members_then (ms ++ (k, j) ∷ []) rest
members_then-member [] k j rest = refl
members_then-member (m ∷ ms) k j rest = ap (grammar.member m.0 m.1) (members_then-member ms k j rest)

pub no_members_yet : (r : Option (grammar.Members × List Token)) → r ≡ parse_map (members_then []) r
no_members_yet None = refl
no_members_yet (Some p) = refl

pub one_more_member_read : (ms : List (List ℕ × grammar.Json)) (k : List ℕ) (j : grammar.Json) (r : Option (grammar.Members × List Token))
    → parse_map (members_then ms) (parse_map (grammar.member k j) r) ≡ parse_map (members_then (ms ++ (k, j) ∷ [])) r
one_more_member_read ms k j None = refl
one_more_member_read ms k j (Some p) = ap (λ i. Some (i, p.1)) (members_then-member ms k j p.0)

-- what the members come to is put together so far
pub record Gathered (ms : List (List ℕ × grammar.Json)) (ts : List (List ℕ × Tree)) : Type 0 where
  pub data_so_far : json.Members
  pub goes_on : (rest : grammar.Members) → of_members (members_then ms rest) json.no_members ≡ of_members rest data_so_far
  pub whole : whole_members data_so_far ≡ Some (members_of ts)
  pub read : MembersAreRead data_so_far

pub gathered_none : Gathered [] []
gathered_none = record { data_so_far = json.no_members; goes_on = λ rest. refl; whole = refl; read = tt }

of_members-one_more : (ms : List (List ℕ × grammar.Json)) (k : List ℕ) (j : grammar.Json) (d : json.Data) (fs gs : json.Members) → of_json j ≡ Some d
    → ((rest : grammar.Members) → of_members (members_then ms rest) gs ≡ of_members rest fs)
    → (rest : grammar.Members) → of_members (members_then (ms ++ (k, j) ∷ []) rest) gs ≡ of_members rest (put k d fs)
of_members-one_more ms k j d fs gs e h rest =
    ap (λ m. of_members m gs) (sym (members_then-member ms k j rest)) ∙ h (grammar.member k j rest) ∙ ap (option_and_then (λ x. of_members rest (put k x fs))) e

-- a key is inserted at its index
put_at_index : (fs : json.Members) (ts : List (List ℕ × Tree)) (p : ℕ) (k : List ℕ) (d : json.Data) (t : Tree) → whole_members fs ≡ Some (members_of ts) → whole d ≡ Some t → IsIndexFor k p ts
    → whole_members (put k d fs) ≡ Some (members_of (insert ts p (k, t)))
put_at_index json.no_members [] zero k d t e w h = rw w
put_at_index json.no_members [] (suc p) k d t e w h = absurd h
put_at_index json.no_members (m ∷ ts) p k d t e w h = absurd (cc)
put_at_index (json.member l x fs) [] p k d t e w h =
    let first = of_and_then (λ u. option_map (member l u) (whole_members fs)) (whole x) no_members e in
    let rest = of_option_map (member l first.0) (whole_members fs) no_members first.2 in
    absurd (let never = rest.2 in cc)
put_at_index (json.member l x fs) (m ∷ ts) zero k d t e w h =
    let first = of_and_then (λ u. option_map (member l u) (whole_members fs)) (whole x) (members_of (m ∷ ts)) e in
    let rest = of_option_map (member l first.0) (whole_members fs) (members_of (m ∷ ts)) first.2 in
    let key : l ≡ m.0 = let same = rest.2 in cc in
    let less : slice_cmp nat_cmp k l ≡ Less = rw key h in
    rw (less, w) (ap (option_map (member k t)) e)
put_at_index (json.member l x fs) (m ∷ ts) (suc p) k d t e w h =
    let first = of_and_then (λ u. option_map (member l u) (whole_members fs)) (whole x) (members_of (m ∷ ts)) e in
    let rest = of_option_map (member l first.0) (whole_members fs) (members_of (m ∷ ts)) first.2 in
    let key : l ≡ m.0 = let same = rest.2 in cc in
    let value : first.0 ≡ m.1 = let same = rest.2 in cc in
    let others : rest.0 ≡ members_of ts = let same = rest.2 in cc in
    let above : slice_cmp nat_cmp k l ≡ Greater = rw key h.0 in
    let more = put_at_index fs ts p k d t (rest.1 ∙ ap Some others) w h.1 in
    let here : whole x ≡ Some m.1 = first.1 ∙ ap Some value in
    rw (above, here, more) (ap (λ a. Some (member a m.1 (members_of (insert ts p (k, t))))) key)

pub gathered_more : (ms : List (List ℕ × grammar.Json)) (ts : List (List ℕ × Tree)) (k : List ℕ) (j : grammar.Json) (t : Tree) (p : ℕ) → Gathered ms ts → tree_in j ≡ Some t → IsIndexFor k p ts
    → Gathered (ms ++ (k, j) ∷ []) (insert ts p (k, t))
gathered_more ms ts k j t p g e h =
    let value = of_and_then whole (of_json j) t e in
    record {
      data_so_far = put k value.0 g.data_so_far;
      goes_on = of_members-one_more ms k j value.0 g.data_so_far json.no_members value.1 g.goes_on;
      whole = put_at_index g.data_so_far ts p k value.0 t g.whole value.2 h;
      read = read_put k value.0 g.data_so_far (read_value j value.0 value.1) g.read;
    }

pub gathered_all : (ms : List (List ℕ × grammar.Json)) (ts : List (List ℕ × Tree)) → Gathered ms ts → members_in (members_then ms grammar.no_members) ≡ Some (members_of ts)
gathered_all ms ts g = ap (option_and_then whole_members) (g.goes_on grammar.no_members) ∙ g.whole

pub gathered_rise : (ms : List (List ℕ × grammar.Json)) (ts : List (List ℕ × Tree)) → Gathered ms ts → AreMembers (members_of ts)
gathered_rise ms ts g = members_whole g.data_so_far (members_of ts) g.read g.whole

-- ---- the index of a key

pub first_index : (k : List ℕ) (ts : List (List ℕ × Tree)) → PrecedesMembers k (members_of ts) → IsIndexFor k 0 ts
first_index k [] h = tt
first_index k (m ∷ ts) h = h

-- a key less than the first of members in order is less than each
before_each : (k : List ℕ) (ts : List (List ℕ × Tree)) (i : ℕ) (d : List ℕ × Tree) → PrecedesMembers k (members_of ts) → AreMembers (members_of ts) → i < length ts → slice_cmp nat_cmp k (get_or ts i d).0 ≡ Less
before_each k [] i d h rises some = absurd (omega arith)
before_each k (m ∷ ts) zero d h rises some = h
before_each k (m ∷ []) (suc i) d h rises some = absurd (omega arith)
before_each k (m ∷ n ∷ ts) (suc i) d h rises some = before_each k (n ∷ ts) i d (nat_list_cmp_total.trans k m.0 n.0 h rises.0) rises.2 (omega arith)

-- the index after a member is the key's, if the key is greater than that member and less than the next
pub index_after : (k : List ℕ) (ts : List (List ℕ × Tree)) (i : ℕ) (d : List ℕ × Tree) → AreMembers (members_of ts) → i < length ts → slice_cmp nat_cmp k (get_or ts i d).0 ≡ Greater
    → PrecedesMembers k (members_of (drop (suc i) ts)) → IsIndexFor k (suc i) ts
index_after k [] i d rises some above below = absurd (omega arith)
index_after k (m ∷ ts) zero d rises some above below = (above, first_index k ts below)
index_after k (m ∷ ts) (suc i) d rises some above below =
    let passed : slice_cmp nat_cmp m.0 (get_or ts i d).0 ≡ Less = before_each m.0 ts i d rises.0 rises.2 (omega arith) in
    let after : slice_cmp nat_cmp (get_or ts i d).0 k ≡ Less = nat_list_cmp_total.antisymm (get_or ts i d).0 k ∙ ap ordering_reverse above in
    let first : slice_cmp nat_cmp k m.0 ≡ Greater = nat_list_cmp_total.antisymm k m.0 ∙ ap ordering_reverse (nat_list_cmp_total.trans m.0 (get_or ts i d).0 k passed after) in
    (first, index_after k ts i d rises.2 (omega arith) above below)

-- ---- depth and texts, with one more

pub items_depth-push : (ts : List Tree) (t : Tree) (n : ℕ) → items_depth (items_of ts) ≤ n → depth t ≤ n → items_depth (items_of (ts ++ t ∷ [])) ≤ n
items_depth-push [] t n h g = omega arith
items_depth-push (u ∷ ts) t n h g = omega (arith, items_depth-push ts t n (omega arith) g)

pub members_depth-insert : (ts : List (List ℕ × Tree)) (p : ℕ) (k : List ℕ) (t : Tree) (n : ℕ) → members_depth (members_of ts) ≤ n → depth t ≤ n
    → members_depth (members_of (insert ts p (k, t))) ≤ n
members_depth-insert [] zero k t n h g = omega arith
members_depth-insert [] (suc p) k t n h g = omega arith
members_depth-insert (m ∷ ts) zero k t n h g = omega arith
members_depth-insert (m ∷ ts) (suc p) k t n h g = omega (arith, members_depth-insert ts p k t n (omega arith) g)

pub MembersHaveTexts-insert : (ts : List (List ℕ × Tree)) (p : ℕ) (k : List ℕ) (t : Tree) → MembersHaveTexts (members_of ts) → IsUtf8 k → HasTexts t
    → MembersHaveTexts (members_of (insert ts p (k, t)))
MembersHaveTexts-insert [] zero k t h u g = (u, g, tt)
MembersHaveTexts-insert [] (suc p) k t h u g = (u, g, tt)
MembersHaveTexts-insert (m ∷ ts) zero k t h u g = (u, g, h)
MembersHaveTexts-insert (m ∷ ts) (suc p) k t h u g = (h.0, h.1, MembersHaveTexts-insert ts p k t h.2 u g)

-- ---- the search for the index, from the end

pub none_after : (k : List ℕ) (ts : List (List ℕ × Tree)) (n : ℕ) → length ts ≤ n → PrecedesMembers k (members_of (drop n ts))
none_after k [] zero h = tt
none_after k [] (suc n) h = tt
none_after k (m ∷ ts) zero h = absurd (omega arith)
none_after k (m ∷ ts) (suc n) h = none_after k ts n (omega arith)

pub before_one_more : (k : List ℕ) (ts : List (List ℕ × Tree)) (i : ℕ) (d : List ℕ × Tree) → i < length ts → slice_cmp nat_cmp k (get_or ts i d).0 ≡ Less → PrecedesMembers k (members_of (drop i ts))
before_one_more k [] i d some h = absurd (omega arith)
before_one_more k (m ∷ ts) zero d some h = h
before_one_more k (m ∷ ts) (suc i) d some h = before_one_more k ts i d (omega arith) h

pub index_found : (k : List ℕ) (ts : List (List ℕ × Tree)) (p : ℕ) (d : List ℕ × Tree) → AreMembers (members_of ts) → 0 < p → p ≤ length ts
    → slice_cmp nat_cmp k (get_or ts (p - 1) d).0 ≡ Greater → PrecedesMembers k (members_of (drop p ts)) → IsIndexFor k p ts
index_found k ts zero d rises some within above below = absurd (omega arith)
index_found k ts (suc i) d rises some within above below =
    let same : suc i - 1 ≡ i = omega arith in
    index_after k ts i d rises (omega arith) (subst (λ n. slice_cmp nat_cmp k (get_or ts n d).0 ≡ Greater) same above) below

pub index_first : (k : List ℕ) (ts : List (List ℕ × Tree)) (p : ℕ) → p ≡ 0 → PrecedesMembers k (members_of (drop p ts)) → IsIndexFor k 0 ts
index_first k ts p e h = first_index k ts (subst (λ n. PrecedesMembers k (members_of (drop n ts))) e h)

-- ---- one value, from its parts

pub tree_in-number : (s : List ℕ) (z : ℤ) → whole_in s ≡ Some z → tree_in (grammar.number s) ≡ Some (number z)
tree_in-number s z e =
    let n = of_and_then as_i64 (number_of s) z e in
    rw (n.1, n.2)

pub tree_in-array : (js : grammar.Items) (ts : Items) → items_in js ≡ Some ts → tree_in (grammar.array js) ≡ Some (array ts)
tree_in-array js ts e =
    let ds = of_and_then whole_items (of_items js) ts e in
    rw (ds.1, ds.2)

pub tree_in-object : (js : grammar.Members) (ts : Members) → members_in js ≡ Some ts → tree_in (grammar.object js) ≡ Some (object ts)
tree_in-object js ts e =
    let ds = of_and_then whole_members (of_members js json.no_members) ts e in
    rw (ds.1, ds.2)

-- ---- the whole text

pub holds_whole : (bytes : List ℕ) (j : grammar.Json) (t : Tree) → IsUtf8 bytes → grammar.value 127 (tokens bytes) ≡ Some (j, []) → tree_in j ≡ Some t → HoldsWhole bytes t
holds_whole bytes j t utf8 e h =
    let d = of_and_then whole (of_json j) t h in
    let is_read : read bytes ≡ Some d.0 = ap (λ o. option_and_then of_json (option_and_then (λ p. grammar.if_last p.0 p.1) o)) e ∙ d.1 in
    (d.0, rw (is_utf8-from_IsUtf8 bytes utf8) is_read, d.2)
