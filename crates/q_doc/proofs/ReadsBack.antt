-- A printed document is read as that document.
use Rattle.std.proofs.Common.{◌≡◌, ℕ, suc, max, ◌≤◌, ℤ, pos, negsuc, List, [], length, false, nat_lt, Some, option_map, option_and_then, Ok, Less, Greater, nat_cmp, refl, sym, ap, ap₂, ◌∙◌, subst, arith, append-nil}
use Rattle.std.specs.Prelude.{⊤}
use Rattle.std.specs.Str.{IsUtf8}
use Rattle.std.specs.Ordering.{ordering_reverse}
use Rattle.std.specs.Cmp.Lexicographic.{slice_cmp}
use Rattle.std.proofs.lemmas.Bool.Decides.{nat_tests}
use Rattle.std.proofs.lemmas.Cmp.{nat_list_cmp_total}
use Rattle.std.proofs.lemmas.Str.{is_utf8-from_IsUtf8}
use Rattle.json.specs.Lex.{tokens}
use Rattle.json.specs.Json as grammar
use Rattle.json.specs.Tree as grammar_tree
use Rattle.json.proofs.Printed.Trees.{value-json_tokens}
use Rattle.serde_json.specs.Data as json
use Rattle.serde_json.specs.Data.{put, unsigned, negative}
use Rattle.serde_json.specs.Read.{read, of_json, of_items, of_members, number_of}
use Rattle.serde_json.specs.Written.{number_text, outline, items_outline, members_outline}
use Rattle.serde_json.specs.Find.{of_integer}
use Rattle.serde_json.proofs.Numbers.{number_of-decimal, number_of-negative}
use Rattle.q_doc.specs.Tree.{Tree, null, boolean, number, text, array, object, Items, no_items, item, Members, no_members, member, depth}
use Rattle.q_doc.specs.Document.{FitsI64, PrecedesMembers, IsValue, AreValues, AreMembers, IsPlainDocument}
use Rattle.q_doc.specs.Judged.{judged, judged_found}
use Rattle.q_doc.specs.Printed.{data_of, items_data, members_data}
use Rattle.q_doc.specs.Limits.{longest_document, deepest_document}
use Rattle.q_doc.proofs.ReadData.{Precedes}
use Rattle.q_doc.proofs.WholeLemmas.{whole-data_of, depth-data_of}

-- ---- members that rise go in at the end, one after another

-- these members, and then the others
abbrev joined : json.Members → json.Members → json.Members
joined json.no_members ms = ms
joined (json.member k d fs) ms = json.member k d (joined fs ms)

joined-no_members : (fs : json.Members) → joined fs json.no_members ≡ fs
joined-no_members json.no_members = refl
joined-no_members (json.member k d fs) = ap (json.member k d) (joined-no_members fs)

joined-member : (fs : json.Members) (k : List ℕ) (d : json.Data) (ms : json.Members) → joined (joined fs (json.member k d json.no_members)) ms ≡ joined fs (json.member k d ms)
joined-member json.no_members k d ms = refl
joined-member (json.member l e fs) k d ms = ap (json.member l e) (joined-member fs k d ms)

-- the keys rise
abbrev Rises : json.Members → Type 0
Rises json.no_members = ⊤
Rises (json.member k d ms) = Precedes k ms × Rises ms

first_below : (l : List ℕ) (e : json.Data) (fs : json.Members) (k : List ℕ) (d : json.Data) (ms : json.Members) → Rises (json.member l e (joined fs (json.member k d ms)))
    → slice_cmp nat_cmp l k ≡ Less
first_below l e json.no_members k d ms h = h.0
first_below l e (json.member m f fs) k d ms h = nat_list_cmp_total.trans l m k h.0 (first_below m f fs k d ms h.1)

put_end : (fs : json.Members) (k : List ℕ) (d : json.Data) (ms : json.Members) → Rises (joined fs (json.member k d ms)) → put k d fs ≡ joined fs (json.member k d json.no_members)
put_end json.no_members k d ms h = refl
put_end (json.member l e fs) k d ms h =
    let above : slice_cmp nat_cmp k l ≡ Greater = nat_list_cmp_total.antisymm k l ∙ ap ordering_reverse (first_below l e fs k d ms h) in
    rw above (ap (json.member l e) (put_end fs k d ms h.1))

precedes_data : (k : List ℕ) (ms : Members) → PrecedesMembers k ms → Precedes k (members_data ms)
precedes_data k no_members h = tt
precedes_data k (member l t ms) h = h

rises_data : (ms : Members) → AreMembers ms → Rises (members_data ms)
rises_data no_members h = tt
rises_data (member k t ms) h = (precedes_data k ms h.0, rises_data ms h.2)

-- ---- the grammar's value

number_back : (z : ℤ) → FitsI64 z → number_of (number_text (of_integer z)) ≡ Some (of_integer z)
number_back (pos n) h = number_of-decimal n (omega arith)
number_back (negsuc n) h = number_of-negative n h

mutual
  of_json-outline : (t : Tree) → IsValue t → of_json (outline (data_of t)) ≡ Some (data_of t)
  of_json-outline null h = refl
  of_json-outline (boolean b) h = refl
  of_json-outline (number z) h = ap (option_map json.number) (number_back z h)
  of_json-outline (text s) h = refl
  of_json-outline (array ts) h = ap (option_map json.array) (of_items-outline ts h)
  of_json-outline (object ms) h = ap (option_map json.object) (of_members-outline ms json.no_members h (rises_data ms h))

  of_items-outline : (ts : Items) → AreValues ts → of_items (items_outline (items_data ts)) ≡ Some (items_data ts)
  of_items-outline no_items h = refl
  of_items-outline (item t ts) h =
      ap (option_and_then (λ d. option_map (json.item d) (of_items (items_outline (items_data ts))))) (of_json-outline t h.0)
      ∙ ap (option_map (json.item (data_of t))) (of_items-outline ts h.1)

  of_members-outline : (ms : Members) (fs : json.Members) → AreMembers ms → Rises (joined fs (members_data ms)) → of_members (members_outline (members_data ms)) fs ≡ Some (joined fs (members_data ms))
  of_members-outline no_members fs h rises = ap Some (sym (joined-no_members fs))
  of_members-outline (member k t ms) fs h rises =
      let d = data_of t in
      let rest = members_data ms in
      let longer = joined fs (json.member k d json.no_members) in
      ap (option_and_then (λ x. of_members (members_outline rest) (put k x fs))) (of_json-outline t h.1)
      ∙ ap (of_members (members_outline rest)) (put_end fs k d rest rises)
      ∙ of_members-outline ms longer h.2 (subst Rises (sym (joined-member fs k d rest)) rises)
      ∙ ap Some (joined-member fs k d rest)

mutual
  depth-outline : (d : json.Data) → grammar_tree.depth (outline d) ≡ json.depth d
  depth-outline json.null = refl
  depth-outline (json.boolean b) = refl
  depth-outline (json.number n) = refl
  depth-outline (json.string s) = refl
  depth-outline (json.array ds) = ap suc (depth-items_outline ds)
  depth-outline (json.object ms) = ap suc (depth-members_outline ms)

  depth-items_outline : (ds : json.Items) → grammar_tree.items_depth (items_outline ds) ≡ json.items_depth ds
  depth-items_outline json.no_items = refl
  depth-items_outline (json.item d ds) = ap₂ max (depth-outline d) (depth-items_outline ds)

  depth-members_outline : (ms : json.Members) → grammar_tree.members_depth (members_outline ms) ≡ json.members_depth ms
  depth-members_outline json.no_members = refl
  depth-members_outline (json.member k d ms) = ap₂ max (depth-outline d) (depth-members_outline ms)

-- ---- the text

-- a text with the tokens of a document holds its JSON value
read_back : (t : Tree) (bytes : List ℕ) → IsValue t → depth t ≤ deepest_document → tokens bytes ≡ grammar_tree.json_tokens (outline (data_of t)) → read bytes ≡ Some (data_of t)
read_back t bytes value shallow same =
    let j = outline (data_of t) in
    let fits : grammar_tree.depth j ≤ 127 = omega (arith, depth-outline (data_of t), depth-data_of t) in
    ap (λ o. option_and_then of_json (option_and_then (λ p. grammar.if_last p.0 p.1) o))
    (ap (grammar.value 127) (same ∙ sym (append-nil (grammar_tree.json_tokens j))) ∙ value-json_tokens j 127 [] fits)
    ∙ of_json-outline t value

pub not_above : (m n : ℕ) → n ≤ m → nat_lt m n ≡ false
not_above m n h = grind (arith, nat_tests)

judged_back : (t : Tree) → IsPlainDocument t → judged_found (Some (data_of t)) ≡ Ok t
judged_back null h = absurd (let e = h.object in cc)
judged_back (boolean b) h = absurd (let e = h.object in cc)
judged_back (number z) h = absurd (let e = h.object in cc)
judged_back (text s) h = absurd (let e = h.object in cc)
judged_back (array ts) h = absurd (let e = h.object in cc)
judged_back (object ms) h =
    rw (not_above deepest_document (json.depth (data_of (object ms))) (omega (arith, depth-data_of (object ms), h.depth)), whole-data_of (object ms) h.value)

-- a UTF-8 text with the tokens of a document, and not too long, is read as that document
pub reads_back : (t : Tree) (bytes : List ℕ) → IsPlainDocument t → IsUtf8 bytes → tokens bytes ≡ grammar_tree.json_tokens (outline (data_of t)) → length bytes ≤ longest_document → judged bytes ≡ Ok t
reads_back t bytes h utf8 same short =
    rw (not_above longest_document (length bytes) short, is_utf8-from_IsUtf8 bytes utf8, read_back t bytes h.value h.depth same) (judged_back t h)
