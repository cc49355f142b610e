-- A printed document is UTF-8 and has the document's tokens, and what is read is a document.
use Rattle.std.proofs.Common.{◌≡◌, ℕ, ◌≤◌, ℤ, pos, negsuc, List, [], ◌∷◌, ◌++◌, length, Bool, true, false, cond, nat_lt, Option, Some, None, Ok, Err, refl, sym, ap, ◌∙◌, subst, arith, ltb-false}
use Rattle.std.specs.Str.{IsUtf8}
use Rattle.std.proofs.lemmas.Fmt.{IsAscii-signed}
use Rattle.std.proofs.lemmas.Str.{IsUtf8-append, IsUtf8-nil, IsUtf8-from_ascii}
use Rattle.json.specs.Lex.{tokens}
use Rattle.json.specs.Print.{IsNumber, quoted}
use Rattle.json.specs.Tree as grammar_tree
use Rattle.json.proofs.Printed.Decimals.{IsNumber-signed_decimal}
use Rattle.json.proofs.Printed.Tokens.{tokens-print}
use Rattle.json.proofs.Printed.Trees.{ArePrintable-json_tokens}
use Rattle.json.proofs.Printed.Utf8.{IsUtf8-are_ascii, IsUtf8-quoted, IsUtf8-boolean}
use Rattle.serde_json.specs.Data as json
use Rattle.serde_json.specs.Find.{of_integer}
use Rattle.serde_json.specs.Written.{number_text, outline, items_outline, members_outline, comma_if, compact_text, items_text, members_text}
use Rattle.serde_json.proofs.Texts.{print-outline}
use Rattle.q_doc.specs.Tree.{Tree, null, boolean, number, text, array, object, Items, no_items, item, Members, no_members, member}
use Rattle.q_doc.specs.Document.{FitsI64, IsValue, AreValues, AreMembers, HasTexts, ItemsHaveTexts, MembersHaveTexts, IsPlainDocument}
use Rattle.q_doc.specs.Found.{found, whole}
use Rattle.q_doc.specs.Judged.{judged, judged_found, or_not_whole}
use Rattle.q_doc.specs.Printed.{data_of, items_data, members_data, printed, tokens_of}
use Rattle.q_doc.specs.Limits.{longest_document, deepest_document}
use Rattle.q_doc.specs.declared.refusal.DocRefusal.TheVariants.{TooLong, TooDeep}
use Rattle.q_doc.proofs.ReadData.{found-IsRead, IsRead}
use Rattle.q_doc.proofs.WholeLemmas.{document_whole}
use Rattle.q_doc.proofs.ReadsBack.{reads_back}

-- ---- the tokens

number_is_number : (z : ℤ) → FitsI64 z → IsNumber (number_text (of_integer z))
number_is_number (pos n) h = IsNumber-signed_decimal (pos n) (omega arith)
number_is_number (negsuc n) h = IsNumber-signed_decimal (negsuc n) (omega arith)

mutual
  has_numbers : (t : Tree) → IsValue t → grammar_tree.HasNumbers (outline (data_of t))
  has_numbers null h = tt
  has_numbers (boolean b) h = tt
  has_numbers (number z) h = number_is_number z h
  has_numbers (text s) h = tt
  has_numbers (array ts) h = items_have_numbers ts h
  has_numbers (object ms) h = members_have_numbers ms h

  items_have_numbers : (ts : Items) → AreValues ts → grammar_tree.ItemsHaveNumbers (items_outline (items_data ts))
  items_have_numbers no_items h = tt
  items_have_numbers (item t ts) h = (has_numbers t h.0, items_have_numbers ts h.1)

  members_have_numbers : (ms : Members) → AreMembers ms → grammar_tree.MembersHaveNumbers (members_outline (members_data ms))
  members_have_numbers no_members h = tt
  members_have_numbers (member k t ms) h = (has_numbers t h.1, members_have_numbers ms h.2)

tokens-printed : (t : Tree) → IsValue t → tokens (printed t) ≡ tokens_of t
tokens-printed t h = ap tokens (sym (print-outline (data_of t))) ∙ tokens-print (tokens_of t) (ArePrintable-json_tokens (outline (data_of t)) (has_numbers t h))

-- ---- UTF-8

number_utf8 : (z : ℤ) → FitsI64 z → IsUtf8 (number_text (of_integer z))
number_utf8 (pos n) h = IsUtf8-from_ascii _ (IsAscii-signed (pos n) (omega arith))
number_utf8 (negsuc n) h = IsUtf8-from_ascii _ (IsAscii-signed (negsuc n) (omega arith))

comma_utf8 : (later : Bool) → IsUtf8 (comma_if later)
comma_utf8 true = IsUtf8-are_ascii (44 ∷ []) refl
comma_utf8 false = IsUtf8-nil

-- a byte of ASCII before a text
sign_utf8 : (x : ℕ) (s : List ℕ) → IsUtf8 (x ∷ []) → IsUtf8 s → IsUtf8 (x ∷ s)
sign_utf8 x s h g = IsUtf8-append (x ∷ []) s h g

mutual
  value_utf8 : (t : Tree) → IsValue t → HasTexts t → IsUtf8 (printed t)
  value_utf8 null h g = IsUtf8-are_ascii _ refl
  value_utf8 (boolean b) h g = IsUtf8-boolean b
  value_utf8 (number z) h g = number_utf8 z h
  value_utf8 (text s) h g = IsUtf8-quoted s g
  value_utf8 (array ts) h g = sign_utf8 91 _ (IsUtf8-are_ascii (91 ∷ []) refl) (items_utf8 false ts h g)
  value_utf8 (object ms) h g = sign_utf8 123 _ (IsUtf8-are_ascii (123 ∷ []) refl) (members_utf8 false ms h g)

  items_utf8 : (later : Bool) (ts : Items) → AreValues ts → ItemsHaveTexts ts → IsUtf8 (items_text later (items_data ts))
  items_utf8 later no_items h g = IsUtf8-are_ascii (93 ∷ []) refl
  items_utf8 later (item t ts) h g =
      IsUtf8-append (comma_if later) (compact_text (data_of t) ++ items_text true (items_data ts)) (comma_utf8 later)
      (IsUtf8-append (compact_text (data_of t)) (items_text true (items_data ts)) (value_utf8 t h.0 g.0) (items_utf8 true ts h.1 g.1))

  members_utf8 : (later : Bool) (ms : Members) → AreMembers ms → MembersHaveTexts ms → IsUtf8 (members_text later (members_data ms))
  members_utf8 later no_members h g = IsUtf8-are_ascii (125 ∷ []) refl
  members_utf8 later (member k t ms) h g =
      let value = compact_text (data_of t) ++ members_text true (members_data ms) in
      IsUtf8-append (comma_if later) (quoted k ++ 58 ∷ value) (comma_utf8 later)
      (IsUtf8-append (quoted k) (58 ∷ value) (IsUtf8-quoted k g.0)
      (sign_utf8 58 value (IsUtf8-are_ascii (58 ∷ []) refl)
      (IsUtf8-append (compact_text (data_of t)) (members_text true (members_data ms)) (value_utf8 t h.1 g.1) (members_utf8 true ms h.2 g.2))))

-- ---- the laws

-- a printed document that is not too long is read as that document
pub printed_reads : (t : Tree) → IsPlainDocument t → HasTexts t → length (printed t) ≤ longest_document → judged (printed t) ≡ Ok t
printed_reads t h texts short = reads_back t (printed t) h (value_utf8 t h.value texts) (tokens-printed t h.value) short

object_judged : (ms : json.Members) (t : Tree) (deep : Bool) (tree : Option Tree) → IsRead (json.object ms) → nat_lt deepest_document (json.depth (json.object ms)) ≡ deep → whole (json.object ms) ≡ tree
    → cond deep (Err (TooDeep (json.depth (json.object ms)))) (or_not_whole tree) ≡ Ok t → IsPlainDocument t
object_judged ms t true tree h test is e = absurd (cc)
object_judged ms t false None h test is e = absurd (cc)
object_judged ms t false (Some u) h test is e =
    let same : u ≡ t = cc in
    subst IsPlainDocument same (document_whole (json.object ms) u h is refl (ltb-false _ _ test))

found_judged : (d : Option json.Data) (bytes : List ℕ) (t : Tree) → found bytes ≡ d → judged_found d ≡ Ok t → IsPlainDocument t
found_judged None bytes t is e = absurd (cc)
found_judged (Some json.null) bytes t is e = absurd (cc)
found_judged (Some (json.boolean b)) bytes t is e = absurd (cc)
found_judged (Some (json.number n)) bytes t is e = absurd (cc)
found_judged (Some (json.string s)) bytes t is e = absurd (cc)
found_judged (Some (json.array ds)) bytes t is e = absurd (cc)
found_judged (Some (json.object ms)) bytes t is e = object_judged ms t _ _ (found-IsRead bytes (json.object ms) is) refl refl e

length_judged : (long : Bool) (bytes : List ℕ) (t : Tree) → cond long (Err (TooLong (length bytes))) (judged_found (found bytes)) ≡ Ok t → IsPlainDocument t
length_judged true bytes t e = absurd (cc)
length_judged false bytes t e = found_judged _ bytes t refl e

-- what is read is a document
pub plain_judged : (bytes : List ℕ) (t : Tree) → judged bytes ≡ Ok t → IsPlainDocument t
plain_judged bytes t e = length_judged _ bytes t e
