-- Numbers are read as they are written, and written as they are read.
use Rattle.std.proofs.Common.{◌≡◌, ℕ, zero, suc, ◌+◌, ◌^◌, ◌<◌, ◌≤◌, Bool, true, false, cond, ◌&&◌, ◌||◌, ◌==◌, nat_lt, List, [], ◌∷◌, ◌++◌, length, get_or, take, drop, ℤ, pos, negsuc, neg_ℤ, refl, sym, ap, ◌∙◌, subst, inl, inr, arith, take_at, drop_at, zero-add, eqb-true, ltb-true, length-append}
use Rattle.std.proofs.lemmas.Bool.{lt-ltb, ltb-false, eqb-false, ne_eqb}
use Rattle.std.proofs.lemmas.Bool.Decides.{nat_tests}
use Rattle.std.proofs.lemmas.Fmt.{decimal_is_IsNumeral, first_decimal, decimal-digits_value, decimal_digit}
use Rattle.std.proofs.lemmas.Str.Parse.{IsNumeralModel, numerals_by_value, tells_digits, digit_from_value}
use Rattle.std.specs.List.{prefix_len, list_all}
use Rattle.std.specs.Fmt.{decimal, signed_decimal}
use Rattle.std.specs.Str.Parse.{IsNumeral, AllDigits, digits_value, signed_digits_value, without_leading_sign}
use Rattle.query_lang.specs.Bytes.{is_letter, is_digit}
use Rattle.query_lang.specs.Lexing.{minus_len, fits, number_token, number_of_digits, number_at, lexeme_at}
use Rattle.query_lang.specs.Tokens.{number, bad_number, found}
use Rattle.query_lang.proofs.Utf8Lemmas.{tested}
use Rattle.query_lang.proofs.NumeralLemmas.{unsigned_plain, unsigned_minus}
use Rattle.query_lang.proofs.SignSpelling.{some_byte}
use Rattle.query_lang.proofs.WordSpelling.{first, prefix_len-run}

model : IsNumeralModel (AllDigits 10) (digits_value 10)
model = numerals_by_value (AllDigits 10) tells_digits

digit_test : (b : ℕ) → 48 ≤ b → b ≤ 57 → is_digit b ≡ true
digit_test b low high = grind (arith, nat_tests)

-- digits pass the test of digits
pub digits_pass : (ds : List ℕ) → AllDigits 10 ds → list_all is_digit ds ≡ true
digits_pass [] all = refl
digits_pass (d ∷ ds) all =
    let range = digit_from_value d all.0 in
    rw (digit_test d range.0 range.1) (digits_pass ds all.1)

-- ---- a numeral without a sign

-- the first byte of digits is a digit
pub first_digit : (ds : List ℕ) → AllDigits 10 ds → 0 < length ds → is_digit (first ds) ≡ true
first_digit [] all some = absurd (omega arith)
first_digit (d ∷ ds) all some = let range = digit_from_value d all.0 in digit_test d range.0 range.1

pub no_minus : (b : ℕ) → is_digit b ≡ true → (b == 45) ≡ false
no_minus b digit = let low : 48 ≤ b = grind (arith, nat_tests) in ne_eqb b 45 (λ e. omega arith)

pub no_letter : (b : ℕ) → is_digit b ≡ true → is_letter b ≡ false
no_letter b digit =
    let low : 48 ≤ b = grind (arith, nat_tests) in
    let high : b ≤ 57 = grind (arith, nat_tests) in
    grind (arith, nat_tests)

minus_zero : (bytes : List ℕ) → is_digit (first bytes) ≡ true → minus_len bytes ≡ 0
minus_zero bytes digit = rw (no_minus (first bytes) digit) refl

plain_value : (ds : List ℕ) → AllDigits 10 ds → 0 < length ds → signed_digits_value 10 ds ≡ pos (digits_value 10 ds)
plain_value [] all some = absurd (omega arith)
plain_value (d ∷ ds) all some =
    let digit = first_digit (d ∷ ds) all some in
    ap (λ b. cond b (neg_ℤ (pos (digits_value 10 (without_leading_sign (d ∷ ds))))) (pos (digits_value 10 (without_leading_sign (d ∷ ds))))) (no_minus d digit)
    ∙ ap (λ r. pos (digits_value 10 r)) (unsigned_plain d ds digit)

minus_value : (ds : List ℕ) → signed_digits_value 10 (45 ∷ ds) ≡ neg_ℤ (pos (digits_value 10 ds))
minus_value ds = refl

-- ---- reading

pub first_append : (ds rest : List ℕ) → 0 < length ds → first (ds ++ rest) ≡ first ds
first_append [] rest some = absurd (omega arith)
first_append (d ∷ ds) rest some = refl

-- digits before a text, which no digit follows
digits_lexeme : (ds rest : List ℕ) (m : ℕ) (bytes : List ℕ) → minus_len bytes ≡ m → drop m bytes ≡ ds ++ rest → m + length ds ≤ length bytes → AllDigits 10 ds → 0 < length ds → is_digit (first rest) ≡ false
    → number_at bytes ≡ found (number_token (take (m + length ds) bytes)) (length bytes) (take (m + length ds) bytes) (drop (m + length ds) bytes)
digits_lexeme ds rest m bytes minus behind below all some stop =
    let count : prefix_len is_digit (drop (minus_len bytes) bytes) ≡ length ds =
    ap (λ k. prefix_len is_digit (drop k bytes)) minus ∙ ap (prefix_len is_digit) behind ∙ prefix_len-run is_digit ds rest (digits_pass ds all) stop in
    ap (number_of_digits bytes) count ∙ ap (λ b. cond b (found (number_token (take (minus_len bytes + length ds) bytes)) (length bytes) (take (minus_len bytes + length ds) bytes) (drop (minus_len bytes + length ds) bytes)) (number_of_digits bytes 0)) (lt-ltb 0 (length ds) some)
    ∙ ap (λ k. found (number_token (take (k + length ds) bytes)) (length bytes) (take (k + length ds) bytes) (drop (k + length ds) bytes)) minus

-- a text that begins with a digit or `-` is read as a number
pub at_number : (b : ℕ) (bs : List ℕ) → is_letter b ≡ false → (is_digit b || b == 45) ≡ true → lexeme_at (b ∷ bs) ≡ number_at (b ∷ bs)
at_number b bs letter digit = rw (some_byte (length bs), letter, digit) refl

pub number_lexeme : (bytes : List ℕ) → 0 < length bytes → is_letter (first bytes) ≡ false → (is_digit (first bytes) || first bytes == 45) ≡ true → lexeme_at bytes ≡ number_at bytes
number_lexeme [] some letter digit = absurd (omega arith)
number_lexeme (b ∷ bs) some letter digit = at_number b bs letter digit

and_false : (a b : Bool) → b ≡ false → (a && b) ≡ false
and_false true b e = e
and_false false b e = refl

no_zero : (n : ℕ) → n < 2 ^ 63 → is_digit (first (decimal n)) ≡ true → (nat_lt 1 (length (decimal n)) && get_or (decimal n) (minus_len (decimal n)) 0 == 48) ≡ false
no_zero zero small digit = ap (λ ds. nat_lt 1 (length ds) && get_or ds (minus_len ds) 0 == 48) (decimal_digit 0 (omega arith))
no_zero (suc k) small digit =
    let above = first_decimal (suc k) (omega arith) (omega arith) in
    let ds = decimal (suc k) in
    let here : (get_or ds (minus_len ds) 0 == 48) ≡ false = ap (λ m. get_or ds m 0 == 48) (minus_zero ds digit) ∙ ne_eqb (get_or ds 0 0) 48 (λ e. omega arith) in
    and_false (nat_lt 1 (length ds)) (get_or ds (minus_len ds) 0 == 48) here

-- the token of a numeral, given how its tests go
token_of : (span : List ℕ) (z : ℤ) → (nat_lt 1 (length span) && get_or span (minus_len span) 0 == 48) ≡ false → signed_digits_value 10 span ≡ z → fits z ≡ true → number_token span ≡ number z
token_of span z guard is within =
    ap (λ b. cond b bad_number (cond (fits (signed_digits_value 10 span)) (number (signed_digits_value 10 span)) bad_number)) guard
    ∙ ap (λ v. cond (fits v) (number v) bad_number) is ∙ ap (λ b. cond b (number z) bad_number) within

-- a numeral without leading zeros is a number
plain_token : (n : ℕ) → n < 2 ^ 63 → number_token (decimal n) ≡ number (pos n)
plain_token n small =
    let (numeral, value) = decimal_is_IsNumeral n (omega arith) in
    let digit = first_digit (decimal n) numeral.1 numeral.0 in
    token_of (decimal n) (pos n) (no_zero n small digit) (plain_value (decimal n) numeral.1 numeral.0 ∙ ap pos value) (lt-ltb n (2 ^ 63) small)

minus_token : (n : ℕ) → n < 2 ^ 63 → number_token (45 ∷ decimal (suc n)) ≡ number (negsuc n)
minus_token n small =
    let ds = decimal (suc n) in
    let (numeral, value) = decimal_is_IsNumeral (suc n) (omega arith) in
    let above = first_decimal (suc n) (omega arith) (omega arith) in
    let guard : (nat_lt 1 (length (45 ∷ ds)) && get_or ds 0 0 == 48) ≡ false = and_false (nat_lt 1 (length (45 ∷ ds))) (get_or ds 0 0 == 48) (ne_eqb (get_or ds 0 0) 48 (λ e. omega arith)) in
    token_of (45 ∷ ds) (negsuc n) guard (ap (λ v. neg_ℤ (pos v)) value) (lt-ltb n (2 ^ 63) small)

pub or_left : (a b : Bool) → a ≡ true → (a || b) ≡ true
or_left true b e = refl
or_left false b e = cc

-- a number before a text is found
pub number_read : (z : ℤ) (rest : List ℕ) → fits z ≡ true → is_digit (first rest) ≡ false
    → lexeme_at (signed_decimal z ++ rest) ≡ found (number z) (length (signed_decimal z ++ rest)) (signed_decimal z) rest
number_read (pos n) rest small stop =
    let low = ltb-true n (2 ^ 63) small in
    let ds = decimal n in
    let bytes = ds ++ rest in
    let (numeral, value) = decimal_is_IsNumeral n (omega arith) in
    let first_is : first bytes ≡ first ds = first_append ds rest numeral.0 in
    let digit : is_digit (first bytes) ≡ true = ap is_digit first_is ∙ first_digit ds numeral.1 numeral.0 in
    let whole_len : length bytes ≡ length ds + length rest = length-append ds rest in
    let prefix : take (0 + length ds) bytes ≡ ds = ap (λ k. take k bytes) (zero-add (length ds)) ∙ take_at ds rest (length ds) refl in
    let behind : drop (0 + length ds) bytes ≡ rest = ap (λ k. drop k bytes) (zero-add (length ds)) ∙ drop_at ds rest (length ds) refl in
    number_lexeme bytes (omega (arith, numeral.0)) (no_letter (first bytes) digit) (or_left (is_digit (first bytes)) (first bytes == 45) digit)
    ∙ digits_lexeme ds rest 0 bytes (minus_zero bytes digit) refl (omega arith) numeral.1 numeral.0 stop
    ∙ ap (λ x. found (number_token x) (length bytes) x (drop (0 + length ds) bytes)) prefix
    ∙ ap (λ x. found (number_token ds) (length bytes) ds x) behind ∙ ap (λ t. found t (length bytes) ds rest) (plain_token n low)
number_read (negsuc n) rest small stop =
    let low = ltb-true n (2 ^ 63) small in
    let ds = decimal (suc n) in
    let bytes = 45 ∷ (ds ++ rest) in
    let (numeral, value) = decimal_is_IsNumeral (suc n) (omega arith) in
    let more : 1 + length ds ≡ suc (length ds) = omega arith in
    let prefix : take (1 + length ds) bytes ≡ 45 ∷ ds = ap (λ k. take k bytes) more ∙ ap (λ r. 45 ∷ r) (take_at ds rest (length ds) refl) in
    let behind : drop (1 + length ds) bytes ≡ rest = ap (λ k. drop k bytes) more ∙ drop_at ds rest (length ds) refl in
    at_number 45 (ds ++ rest) refl refl
    ∙ digits_lexeme ds rest 1 bytes refl refl (omega (arith, length-append ds rest)) numeral.1 numeral.0 stop
    ∙ ap (λ x. found (number_token x) (length bytes) x (drop (1 + length ds) bytes)) prefix
    ∙ ap (λ x. found (number_token (45 ∷ ds)) (length bytes) (45 ∷ ds) x) behind ∙ ap (λ t. found t (length bytes) (45 ∷ ds) rest) (minus_token n low)

-- ---- and back

-- what follows from the token of a numeral
pub record Determined (span : List ℕ) (z : ℤ) : Type 0 where
  pub guard : (nat_lt 1 (length span) && get_or span (minus_len span) 0 == 48) ≡ false
  pub value : signed_digits_value 10 span ≡ z
  pub within : fits z ≡ true

determined : (span : List ℕ) (z : ℤ) → number_token span ≡ number z → Determined span z
determined span z e =
    elim (tested (nat_lt 1 (length span) && get_or span (minus_len span) 0 == 48)) [
      | inl zeros ↦ (let no = rw zeros at e in cc)
      | inr plain ↦ elim (tested (fits (signed_digits_value 10 span))) [
        | inl within ↦ (
            let got : number (signed_digits_value 10 span) ≡ number z = rw (plain, within) at e in
            let same : signed_digits_value 10 span ≡ z = cc in
            record { guard = plain; value = same; within = ap fits (sym same) ∙ within })
        | inr outside ↦ (let no = rw (plain, outside) at e in cc)
      ]
    ]

second_false : (a b : Bool) → (a && b) ≡ false → a ≡ true → b ≡ false
second_false true b e h = e
second_false false b e h = cc

first_false : (a b : Bool) → (a && b) ≡ false → b ≡ true → a ≡ false
first_false true b e h = let no : b ≡ false = e in cc
first_false false b e h = refl

plain_written : (b : ℕ) (bs : List ℕ) (z : ℤ) → AllDigits 10 (b ∷ bs) → Determined (b ∷ bs) z → (b ∷ bs ≡ signed_decimal z) × (fits z ≡ true)
plain_written b bs z all t =
    let ds = b ∷ bs in
    let digit = first_digit ds all (omega arith) in
    let is : pos (digits_value 10 ds) ≡ z = sym (plain_value ds all (omega arith)) ∙ t.value in
    let small : nat_lt (digits_value 10 ds) (2 ^ 63) ≡ true = ap fits is ∙ t.within in
    let low = ltb-true (digits_value 10 ds) (2 ^ 63) small in
    let guard : (nat_lt 1 (length ds) && b == 48) ≡ false = ap (λ m. nat_lt 1 (length ds) && get_or ds m 0 == 48) (sym (minus_zero ds digit)) ∙ t.guard in
    let single : b ≡ 48 → length ds ≡ 1 = λ e. (
    let hit : (b == 48) ≡ true = ap (λ x. x == 48) e in
    let short : nat_lt 1 (length ds) ≡ false = first_false (nat_lt 1 (length ds)) (b == 48) guard hit in
    omega (arith, ltb-false 1 (length ds) short)) in
    (sym (decimal-digits_value model ds all (omega arith) single (omega arith)) ∙ ap signed_decimal is, t.within)

by_value : (ds : List ℕ) (z : ℤ) → IsNumeral 10 ds → (first ds ≡ 48 → ⊥) → fits z ≡ true → (v : ℕ) → digits_value 10 ds ≡ v → neg_ℤ (pos v) ≡ z → (45 ∷ ds ≡ signed_decimal z) × (fits z ≡ true)
by_value ds z numeral no_zeros within zero is value =
    let written = decimal-digits_value model ds numeral.1 numeral.0 (λ e. absurd (no_zeros e)) (omega (arith, is)) in
    let zero_text : 48 ∷ [] ≡ ds = sym (decimal_digit 0 (omega arith)) ∙ ap decimal (sym is) ∙ written in
    absurd (no_zeros (ap first (sym zero_text)))
by_value ds z numeral no_zeros within (suc k) is value =
    let small : nat_lt k (2 ^ 63) ≡ true = ap fits value ∙ within in
    let low = ltb-true k (2 ^ 63) small in
    let written = decimal-digits_value model ds numeral.1 numeral.0 (λ e. absurd (no_zeros e)) (omega (arith, is)) in
    (ap (λ r. 45 ∷ r) (sym written ∙ ap decimal is) ∙ ap signed_decimal value, within)

minus_written : (ds : List ℕ) (z : ℤ) → IsNumeral 10 ds → Determined (45 ∷ ds) z → (45 ∷ ds ≡ signed_decimal z) × (fits z ≡ true)
minus_written ds z numeral t =
    let long : nat_lt 1 (length (45 ∷ ds)) ≡ true = lt-ltb 1 (length (45 ∷ ds)) (omega (arith, numeral.0)) in
    let no_zeros : (first ds == 48) ≡ false = second_false (nat_lt 1 (length (45 ∷ ds))) (first ds == 48) t.guard long in
    by_value ds z numeral (λ e. eqb-false (first ds) 48 no_zeros e) t.within (digits_value 10 ds) refl t.value

-- what a numeral is read as
pub numeral_written : (bytes : List ℕ) (z : ℤ) → IsNumeral 10 (without_leading_sign bytes) → (is_digit (first bytes) || first bytes == 45) ≡ true → number_token bytes ≡ number z
    → (bytes ≡ signed_decimal z) × (fits z ≡ true)
numeral_written [] z numeral starts e = absurd (omega (arith, numeral.0))
numeral_written (b ∷ bs) z numeral starts e =
    elim (tested (b == 45)) [
      | inl minus ↦ subst (λ x. (x ∷ bs ≡ signed_decimal z) × (fits z ≡ true)) (sym (eqb-true b 45 minus))
          (minus_written bs z (subst (IsNumeral 10) (unsigned_minus b bs minus) numeral) (subst (λ x. Determined (x ∷ bs) z) (eqb-true b 45 minus) (determined (b ∷ bs) z e)))
      | inr other ↦ (
          let digit : is_digit b ≡ true = or_first (is_digit b) (b == 45) starts other in
          plain_written b bs z (subst (AllDigits 10) (unsigned_plain b bs digit) numeral.1) (determined (b ∷ bs) z e))
    ]
  where
    or_first : (x y : Bool) → (x || y) ≡ true → y ≡ false → x ≡ true
    or_first true y e h = refl
    or_first false y e h = let no : y ≡ true = e in cc
