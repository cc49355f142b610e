-- A document that was read takes no more bytes, printed, than the text that it was read from.
use Rattle.std.proofs.Common.{◌≡◌, ℕ, zero, suc, max, ◌+◌, ◌-◌, ◌^◌, ◌<◌, ◌≤◌, ℤ, pos, negsuc, Bool, true, false, not, cond, ◌&&◌, ◌==◌, nat_lt, nat_le, Float, List, [], ◌∷◌, ◌++◌, length, take, drop, Option, Some, None, inl, inr, option_map, option_and_then, Ok, Err, Ordering, Less, Equal, Greater, nat_cmp, decimal, refl, sym, ap, ◌∙◌, subst, arith, append-nil, length-append, length-drop, length-take, get_or, ltb-true, leb-true}
use Rattle.std.specs.Prelude.{⊤, ◌⊎◌, unwrap_or, Result, IfOk}
use Rattle.std.specs.Ordering.{match_ordering}
use Rattle.std.specs.Cmp.Lexicographic.{slice_cmp}
use Rattle.std.specs.Fmt.{signed_decimal}
use Rattle.std.specs.Str.Parse.{digits_value, AllDigits}
use Rattle.std.proofs.lemmas.Bool.{and_parts, eqb-true}
use Rattle.std.proofs.lemmas.Fmt.{length-decimal-le}
use Rattle.std.proofs.lemmas.Int.Digits.{digits_value-lt}
use Rattle.fast_float.specs.Text.{Parts, scan, digits_of, with_sign}
use Rattle.std.specs.List.{prefix_len}
use Rattle.std.specs.Float.Numeral.{digits_end}
use Rattle.fast_float.proofs.Reading.{scan_numeral-AllDigits}
use Rattle.json.specs.Lex.{tokens}
use Rattle.json.specs.Token as token
use Rattle.json.specs.Print.{quoted, token_text}
use Rattle.json.specs.Json as grammar
use Rattle.serde_json.specs.Data as json
use Rattle.serde_json.specs.Data.{Num, unsigned, negative, float, put}
use Rattle.serde_json.specs.Read.{read, max_depth, of_json, of_items, of_members, number_of, number_from, float_of, is_integer}
use Rattle.serde_json.specs.Find.{as_i64, of_integer}
use Rattle.serde_json.specs.Written.{number_text, comma_if, compact_text, items_text, members_text}
use Rattle.q_doc.specs.Tree.{Tree, null, boolean, number, text, array, object, Items, no_items, item, Members, no_members, member}
use Rattle.q_doc.specs.Found.{found, whole, whole_items, whole_members}
use Rattle.q_doc.specs.Reading.{HoldsWhole}
use Rattle.q_doc.specs.Judged.{judged, judged_found, judged_data, judged_object, or_not_whole}
use Rattle.q_doc.specs.Printed.{data_of, items_data, members_data, printed}
use Rattle.q_doc.specs.Limits.{longest_document, deepest_document}
use Rattle.q_doc.specs.declared.refusal.DocRefusal.{DocRefusal}
use Rattle.q_doc.specs.declared.refusal.DocRefusal.TheVariants.{TooLong, TooDeep, Memory}
use Rattle.q_doc.proofs.ReadData.{of_option_map, of_and_then}
use Rattle.q_doc.proofs.PrintedLength.{json_size, items_size, members_size, text_size}

-- ---- numbers

whole_fits : (s : List ℕ) → length (scan s).whole ≤ length s
unfolding scan
whole_fits s = omega (arith, length-take (digits_end s 0 - 0) (drop 0 s), length-drop 0 s)

no_fraction : (s : List ℕ) → (scan s).point ≡ false → (scan s).fraction ≡ []
unfolding scan
no_fraction s e =
    let a = digits_end s 0 in
    ap (λ (b : Bool). cond b (take (cond b (digits_end s (a + 1)) a - (a + 1)) (drop (a + 1) s)) []) e

not_true : (b : Bool) → not b ≡ true → b ≡ false
not_true true e = absurd (cc)
not_true false e = refl

-- an integer is printed with no more digits than it was read from
integer_size : (s : List ℕ) → is_integer (scan s) ≡ true → digits_of (scan s) < 2 ^ 64 → length (decimal (digits_of (scan s))) ≤ length s
integer_size s h small =
    let parts = and_parts (nat_lt 0 (length (scan s).whole) && not (scan s).point) (length (scan s).exponent == 0) h in
    let front = and_parts (nat_lt 0 (length (scan s).whole)) (not (scan s).point) parts.0 in
    let some : 0 < length (scan s).whole = ltb-true _ _ front.0 in
    let value : digits_of (scan s) ≡ digits_value 10 (scan s).whole =
    ap (λ xs. digits_value 10 ((scan s).whole ++ xs)) (no_fraction s (not_true _ front.1)) ∙ ap (digits_value 10) (append-nil (scan s).whole) in
    let below : digits_of (scan s) < 10 ^ length (scan s).whole = rw value (digits_value-lt 10 (scan s).whole (scan_numeral-AllDigits s).0) in
    let few = length-decimal-le (length (scan s).whole) (digits_of (scan s)) some below small in
    omega (arith, whole_fits s)

float_size : (finite : Bool) (x : Float) (n : Num) → cond finite (Some (float x)) None ≡ Some n → length (number_text n) ≡ 0
float_size true x n e = let same : float x ≡ n = cc in subst (λ (m : Num). length (number_text m) ≡ 0) same refl
float_size false x n e = absurd (cc)

unsigned_size : (s : List ℕ) (b : Bool) (n : Num) → (is_integer (scan s) && nat_lt (digits_of (scan s)) (2 ^ 64)) ≡ b
    → cond b (Some (unsigned (digits_of (scan s)))) (float_of false (scan s)) ≡ Some n → length (number_text n) ≤ length s
unsigned_size s true n test e =
    let same : unsigned (digits_of (scan s)) ≡ n = cc in
    let parts = and_parts (is_integer (scan s)) (nat_lt (digits_of (scan s)) (2 ^ 64)) test in
    subst (λ (m : Num). length (number_text m) ≤ length s) same (integer_size s parts.0 (ltb-true _ _ parts.1))
unsigned_size s false n test e = let none = float_size _ _ n e in omega arith

sign_size : (n : ℕ) → length (signed_decimal (with_sign true n)) ≤ 1 + length (decimal n)
sign_size zero = omega arith
sign_size (suc m) = omega arith

negative_size : (s : List ℕ) (b : Bool) (n : Num) → (is_integer (scan s) && nat_lt 0 (digits_of (scan s)) && nat_le (digits_of (scan s)) (2 ^ 63)) ≡ b
    → cond b (Some (negative (with_sign true (digits_of (scan s))))) (float_of true (scan s)) ≡ Some n → length (number_text n) ≤ 1 + length s
negative_size s true n test e =
    let same : negative (with_sign true (digits_of (scan s))) ≡ n = cc in
    let parts = and_parts (is_integer (scan s) && nat_lt 0 (digits_of (scan s))) (nat_le (digits_of (scan s)) (2 ^ 63)) test in
    let front = and_parts (is_integer (scan s)) (nat_lt 0 (digits_of (scan s))) parts.0 in
    let small : digits_of (scan s) ≤ 2 ^ 63 = leb-true _ _ parts.1 in
    let few = integer_size s front.0 (omega arith) in
    let all : length (signed_decimal (with_sign true (digits_of (scan s)))) ≤ 1 + length s = omega (arith, sign_size (digits_of (scan s))) in
    subst (λ (m : Num). length (number_text m) ≤ 1 + length s) same all
negative_size s false n test e = let none = float_size _ _ n e in omega arith

number_size : (s : List ℕ) (b : Bool) (n : Num) → (get_or s 0 0 == 45) ≡ b → cond b (number_from true (scan (drop 1 s))) (number_from false (scan s)) ≡ Some n → length (number_text n) ≤ length s
number_size [] true n test e = absurd (cc)
number_size (x ∷ s) true n test e = let all = negative_size s _ n refl e in omega arith
number_size s false n test e = unsigned_size s _ n refl e

number_of_size : (s : List ℕ) (n : Num) → number_of s ≡ Some n → length (number_text n) ≤ length s
unfolding number_of
number_of_size s n e = number_size s _ n refl e

-- ---- JSON values

abbrev mutual
  -- the bytes of a value, in which a float has none
  pub data_size : json.Data → ℕ
  data_size json.null = 4
  data_size (json.boolean b) = length (token_text (token.boolean b))
  data_size (json.number n) = length (number_text n)
  data_size (json.string s) = length (quoted s)
  data_size (json.array ds) = 1 + max 1 (elements_size ds)
  data_size (json.object ms) = 1 + max 1 (entries_size ms)

  -- of each element, and what follows it
  pub elements_size : json.Items → ℕ
  elements_size json.no_items = 0
  elements_size (json.item d ds) = data_size d + 1 + elements_size ds

  -- of each member, and what follows it
  pub entries_size : json.Members → ℕ
  entries_size json.no_members = 0
  entries_size (json.member k d ms) = length (quoted k) + 1 + (data_size d + 1) + entries_size ms

put_size_at : (o : Ordering) (k l : List ℕ) (d e : json.Data) (ms : json.Members) → entries_size (put k d ms) ≤ length (quoted k) + 1 + (data_size d + 1) + entries_size ms
    → entries_size (match_ordering o (json.member k d (json.member l e ms)) (json.member l d ms) (json.member l e (put k d ms)))
    ≤ length (quoted k) + 1 + (data_size d + 1) + (length (quoted l) + 1 + (data_size e + 1) + entries_size ms)
put_size_at Less k l d e ms h = omega arith
put_size_at Equal k l d e ms h = omega arith
put_size_at Greater k l d e ms h = omega arith

put_size : (k : List ℕ) (d : json.Data) (ms : json.Members) → entries_size (put k d ms) ≤ length (quoted k) + 1 + (data_size d + 1) + entries_size ms
put_size k d json.no_members = omega arith
put_size k d (json.member l e ms) = put_size_at (slice_cmp nat_cmp k l) k l d e ms (put_size k d ms)

same_size : (d e : json.Data) → ◌≡◌ {A = Option json.Data} (Some d) (Some e) → data_size d ≡ data_size e
same_size d e h = ap (λ o. data_size (unwrap_or o e)) h

mutual
  of_size : (j : grammar.Json) (d : json.Data) → of_json j ≡ Some d → data_size d ≤ json_size j
  of_size grammar.null d e = omega (arith, same_size json.null d e)
  of_size (grammar.boolean b) d e = omega (arith, same_size (json.boolean b) d e)
  of_size (grammar.number s) d e = let n = of_option_map json.number (number_of s) d e in omega (arith, ap data_size n.2, number_of_size s n.0 n.1)
  of_size (grammar.string s) d e = omega (arith, same_size (json.string s) d e)
  of_size (grammar.array js) d e = let ds = of_option_map json.array (of_items js) d e in omega (arith, ap data_size ds.2, items_of_size js ds.0 ds.1)
  of_size (grammar.object ms) d e = let ds = of_option_map json.object (of_members ms json.no_members) d e in omega (arith, ap data_size ds.2, members_of_size ms json.no_members ds.0 ds.1)

  items_of_size : (js : grammar.Items) (ds : json.Items) → of_items js ≡ Some ds → elements_size ds ≤ items_size js
  items_of_size grammar.no_items ds e = omega (arith, ap (λ o. elements_size (unwrap_or o ds)) e)
  items_of_size (grammar.item j js) ds e =
      let first = of_and_then (λ d. option_map (json.item d) (of_items js)) (of_json j) ds e in
      let rest = of_option_map (json.item first.0) (of_items js) ds first.2 in
      omega (arith, ap elements_size rest.2, of_size j first.0 first.1, items_of_size js rest.0 rest.1)

  members_of_size : (ms : grammar.Members) (old new : json.Members) → of_members ms old ≡ Some new → entries_size new ≤ entries_size old + members_size ms
  members_of_size grammar.no_members old new e = omega (arith, ap (λ o. entries_size (unwrap_or o new)) e)
  members_of_size (grammar.member k j ms) old new e =
      let first = of_and_then (λ d. of_members ms (put k d old)) (of_json j) new e in
      omega (arith, of_size j first.0 first.1, put_size k first.0 old, members_of_size ms (put k first.0 old) new first.2)

mutual
  pub compact_size : (d : json.Data) → length (compact_text d) ≡ data_size d
  compact_size json.null = refl
  compact_size (json.boolean b) = refl
  compact_size (json.number n) = refl
  compact_size (json.string s) = refl
  compact_size (json.array ds) = omega (arith, first_items_size ds)
  compact_size (json.object ms) = omega (arith, first_members_size ms)

  pub first_items_size : (ds : json.Items) → length (items_text false ds) ≡ max 1 (elements_size ds)
  first_items_size json.no_items = refl
  first_items_size (json.item d ds) = omega (arith, length-append (compact_text d) (items_text true ds), compact_size d, later_items_size ds)

  later_items_size : (ds : json.Items) → length (items_text true ds) ≡ 1 + elements_size ds
  later_items_size json.no_items = refl
  later_items_size (json.item d ds) = omega (arith, length-append (compact_text d) (items_text true ds), compact_size d, later_items_size ds)

  pub first_members_size : (ms : json.Members) → length (members_text false ms) ≡ max 1 (entries_size ms)
  first_members_size json.no_members = refl
  first_members_size (json.member k d ms) =
      omega (
        arith,
        length-append (quoted k) (58 ∷ (compact_text d ++ members_text true ms)),
        length-append (compact_text d) (members_text true ms),
        compact_size d,
        later_members_size ms,
      )

  later_members_size : (ms : json.Members) → length (members_text true ms) ≡ 1 + entries_size ms
  later_members_size json.no_members = refl
  later_members_size (json.member k d ms) =
      omega (
        arith,
        length-append (quoted k) (58 ∷ (compact_text d ++ members_text true ms)),
        length-append (compact_text d) (members_text true ms),
        compact_size d,
        later_members_size ms,
      )

-- ---- trees

integer_again : (z : ℤ) → length (number_text (of_integer z)) ≡ length (signed_decimal z)
integer_again (pos n) = refl
integer_again (negsuc n) = refl

whole_unsigned : (n : ℕ) (z : ℤ) (b : Bool) → cond b (Some (pos n)) None ≡ Some z → length (number_text (of_integer z)) ≡ length (decimal n)
whole_unsigned n z true e = let same : pos n ≡ z = cc in subst (λ (y : ℤ). length (number_text (of_integer y)) ≡ length (decimal n)) same refl
whole_unsigned n z false e = absurd (cc)

whole_number_size : (n : Num) (z : ℤ) → as_i64 n ≡ Some z → length (number_text (of_integer z)) ≡ length (number_text n)
whole_number_size (unsigned n) z e = whole_unsigned n z _ e
whole_number_size (negative y) z e = integer_again z ∙ ap (λ o. length (signed_decimal (unwrap_or o z))) (sym e)
whole_number_size (float x) z e = absurd (cc)

mutual
  whole_size : (d : json.Data) (t : Tree) → whole d ≡ Some t → data_size (data_of t) ≡ data_size d
  whole_size json.null t e = ap (λ o. data_size (data_of (unwrap_or o t))) (sym e)
  whole_size (json.boolean b) t e = ap (λ o. data_size (data_of (unwrap_or o t))) (sym e)
  whole_size (json.number n) t e = let z = of_option_map number (as_i64 n) t e in ap (λ u. data_size (data_of u)) (sym z.2) ∙ whole_number_size n z.0 z.1
  whole_size (json.string s) t e = ap (λ o. data_size (data_of (unwrap_or o t))) (sym e)
  whole_size (json.array ds) t e = let ts = of_option_map array (whole_items ds) t e in ap (λ u. data_size (data_of u)) (sym ts.2) ∙ ap (λ n. 1 + max 1 n) (whole_items_size ds ts.0 ts.1)
  whole_size (json.object ms) t e = let ts = of_option_map object (whole_members ms) t e in ap (λ u. data_size (data_of u)) (sym ts.2) ∙ ap (λ n. 1 + max 1 n) (whole_members_size ms ts.0 ts.1)

  whole_items_size : (ds : json.Items) (ts : Items) → whole_items ds ≡ Some ts → elements_size (items_data ts) ≡ elements_size ds
  whole_items_size json.no_items ts e = ap (λ o. elements_size (items_data (unwrap_or o ts))) (sym e)
  whole_items_size (json.item d ds) ts e =
      let first = of_and_then (λ t. option_map (item t) (whole_items ds)) (whole d) ts e in
      let rest = of_option_map (item first.0) (whole_items ds) ts first.2 in
      omega (arith, ap (λ us. elements_size (items_data us)) rest.2, whole_size d first.0 first.1, whole_items_size ds rest.0 rest.1)

  whole_members_size : (ms : json.Members) (ts : Members) → whole_members ms ≡ Some ts → entries_size (members_data ts) ≡ entries_size ms
  whole_members_size json.no_members ts e = ap (λ o. entries_size (members_data (unwrap_or o ts))) (sym e)
  whole_members_size (json.member k d ms) ts e =
      let first = of_and_then (λ t. option_map (member k t) (whole_members ms)) (whole d) ts e in
      let rest = of_option_map (member k first.0) (whole_members ms) ts first.2 in
      omega (arith, ap (λ us. entries_size (members_data us)) rest.2, whole_size d first.0 first.1, whole_members_size ms rest.0 rest.1)

-- ---- texts

last_is : (j k : grammar.Json) (ts : List token.Token) → grammar.if_last j ts ≡ Some k → (j ≡ k) × (ts ≡ [])
last_is j k [] e = (ap (λ o. unwrap_or o k) e, refl)
last_is j k (t ∷ ts) e = absurd (cc)

-- a JSON value takes no more than the text that it was read from
found_size : (bytes : List ℕ) (b : Bool) (d : json.Data) → cond b (read bytes) None ≡ Some d → data_size d ≤ length bytes
found_size bytes true d e =
    let j = of_and_then of_json (option_and_then (λ p. grammar.if_last p.0 p.1) (grammar.value max_depth (tokens bytes))) d e in
    let p = of_and_then (λ (p : grammar.Json × List token.Token). grammar.if_last p.0 p.1) (grammar.value max_depth (tokens bytes)) j.0 j.1 in
    let last = last_is p.0.0 j.0 p.0.1 p.2 in
    let whole_text : grammar.value max_depth (tokens bytes) ≡ Some (p.0.0, []) = p.1 ∙ ap (λ ts. Some (p.0.0, ts)) last.1 in
    omega (arith, text_size max_depth bytes p.0.0 whole_text, ap json_size last.0, of_size j.0 d j.2)
found_size bytes false d e = absurd (cc)

-- a tree of whole numbers takes no more, printed, than a text that holds it
pub printed_holds : (bytes : List ℕ) (t : Tree) → HoldsWhole bytes t → length (printed t) ≤ length bytes
printed_holds bytes t h = omega (arith, compact_size (data_of t), whole_size h.0 t h.2, found_size bytes _ h.0 h.1)

object_judged : (bytes : List ℕ) (ms : json.Members) (t : Tree) (deep : Bool) (tree : Option Tree) → found bytes ≡ Some (json.object ms) → whole (json.object ms) ≡ tree
    → cond deep (Err (TooDeep (json.depth (json.object ms)))) (or_not_whole tree) ≡ Ok t → length (printed t) ≤ length bytes
object_judged bytes ms t true tree h is e = absurd (cc)
object_judged bytes ms t false None h is e = absurd (cc)
object_judged bytes ms t false (Some u) h is e =
    let same : u ≡ t = cc in
    printed_holds bytes t (json.object ms, h, is ∙ ap Some same)

found_judged : (d : Option json.Data) (bytes : List ℕ) (t : Tree) → found bytes ≡ d → judged_found d ≡ Ok t → length (printed t) ≤ length bytes
found_judged None bytes t is e = absurd (cc)
found_judged (Some json.null) bytes t is e = absurd (cc)
found_judged (Some (json.boolean b)) bytes t is e = absurd (cc)
found_judged (Some (json.number n)) bytes t is e = absurd (cc)
found_judged (Some (json.string s)) bytes t is e = absurd (cc)
found_judged (Some (json.array ds)) bytes t is e = absurd (cc)
found_judged (Some (json.object ms)) bytes t is e = object_judged bytes ms t _ _ is refl e

length_judged : (long : Bool) (bytes : List ℕ) (t : Tree) → cond long (Err (TooLong (length bytes))) (judged_found (found bytes)) ≡ Ok t → length (printed t) ≤ length bytes
length_judged true bytes t e = absurd (cc)
length_judged false bytes t e = found_judged _ bytes t refl e

-- a document takes no more, printed, than the text that it was read from
pub printed_judged : (bytes : List ℕ) (t : Tree) → judged bytes ≡ Ok t → length (printed t) ≤ length bytes
printed_judged bytes t e = length_judged _ bytes t e

-- so an answer to a text is no longer, where it is a document
pub no_longer : (r : Result Tree DocRefusal) (bytes : List ℕ) → (r ≡ Err Memory) ⊎ (r ≡ judged bytes) → IfOk r (λ t. length (printed t) ≤ length bytes)
no_longer (Err e) bytes h = tt
no_longer (Ok t) bytes (inl e) = absurd (cc)
no_longer (Ok t) bytes (inr e) = printed_judged bytes t (sym e)

-- the same of the answer to what a text holds
pub no_longer_found : (r : Result Tree DocRefusal) (bytes : List ℕ) → (r ≡ Err Memory) ⊎ (r ≡ judged_found (found bytes)) → IfOk r (λ t. length (printed t) ≤ length bytes)
no_longer_found (Err e) bytes h = tt
no_longer_found (Ok t) bytes (inl e) = absurd (cc)
no_longer_found (Ok t) bytes (inr e) = found_judged _ bytes t refl (sym e)
