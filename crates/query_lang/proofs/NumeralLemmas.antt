-- Numerals at the beginning of a text.
use Rattle.std.proofs.Common.{◌≡◌, ℕ, zero, suc, ◌+◌, ◌-◌, ◌<◌, ◌≤◌, true, ◌==◌, List, [], ◌∷◌, get_or, take, drop, refl, sym, ap, ◌∙◌, subst, inl, inr, arith, get_or-drop}
use Rattle.std.proofs.lemmas.Bool.{ne_eqb}
use Rattle.std.proofs.lemmas.Bool.Decides.{nat_tests}
use Rattle.std.proofs.lemmas.List.Sums.{prefix_len_passes}
use Rattle.std.proofs.lemmas.List.Folds.{length-prefix_len}
use Rattle.std.proofs.lemmas.Str.{digit_value_digit}
use Rattle.std.specs.List.{prefix_len}
use Rattle.std.specs.Char.{digit_value}
use Rattle.std.specs.Str.Parse.{IsNumeral, AllDigits, without_leading_sign}
use Rattle.query_lang.specs.Bytes.{is_digit}
use Rattle.query_lang.specs.Lexing.{minus_len}
use Rattle.query_lang.proofs.Utf8Lemmas.{tested}

-- a digit's value is below ten
digit_below : (b : ℕ) → is_digit b ≡ true → digit_value b < 10
digit_below b e =
    let low : 48 ≤ b = grind (arith, nat_tests) in
    let high : b ≤ 57 = grind (arith, nat_tests) in
    omega (arith, digit_value_digit b (low, high))

pub take_prefix : (k n b : ℕ) (bs : List ℕ) → k ≡ 1 + n → take k (b ∷ bs) ≡ b ∷ take n bs
take_prefix k n b bs h = let more : k ≡ suc n = omega arith in rw more refl

byte_of_digit : (b : ℕ) → is_digit b ≡ true → (0 < b) × (b < 128)
byte_of_digit b e = (grind (arith, nat_tests), grind (arith, nat_tests))

-- a run of digits is digits
run_digits : (xs : List ℕ) → AllDigits 10 (take (prefix_len is_digit xs) xs)
run_digits [] = tt
run_digits (b ∷ bs) =
    elim (tested (is_digit b)) [
      | inl digit ↦ (let both : AllDigits 10 (b ∷ take (prefix_len is_digit bs) bs) = (digit_below b digit, run_digits bs) in
          rw digit (subst (AllDigits 10) (sym (take_prefix _ (prefix_len is_digit bs) b bs refl)) both))
      | inr other ↦ rw other tt
    ]

minus_byte : (bytes : List ℕ) → minus_len bytes ≤ 1
minus_byte bytes = elim (tested (get_or bytes 0 0 == 45)) [ inl hit ↦ rw hit (omega arith) | inr other ↦ rw other (omega arith) ]

-- the byte at the end of a numeral is a digit
pub last_digit : (bytes : List ℕ) → 0 < prefix_len is_digit (drop (minus_len bytes) bytes)
    → is_digit (get_or bytes (minus_len bytes + prefix_len is_digit (drop (minus_len bytes) bytes) - 1) 0) ≡ true
last_digit bytes some =
    let count = prefix_len is_digit (drop (minus_len bytes) bytes) in
    let place : minus_len bytes + (count - 1) ≡ minus_len bytes + count - 1 = omega arith in
    subst (λ k. is_digit (get_or bytes k 0) ≡ true) place
    (rw (← get_or-drop (minus_len bytes) bytes (count - 1) 0) (prefix_len_passes is_digit (drop (minus_len bytes) bytes) (count - 1) 0 (omega arith)))

pub unsigned_plain : (b : ℕ) (r : List ℕ) → is_digit b ≡ true → without_leading_sign (b ∷ r) ≡ b ∷ r
unsigned_plain b r digit =
    let low : 48 ≤ b = grind (arith, nat_tests) in
    rw (ne_eqb b 45 (λ e. omega arith), ne_eqb b 43 (λ e. omega arith)) refl

pub unsigned_minus : (b : ℕ) (r : List ℕ) → (b == 45) ≡ true → without_leading_sign (b ∷ r) ≡ r
unsigned_minus b r minus = rw minus refl

drop_nil_len : (m : ℕ) → prefix_len is_digit (drop m []) ≡ 0
drop_nil_len zero = refl
drop_nil_len (suc m) = refl

with_minus : (b : ℕ) (bs : List ℕ) (m : ℕ) → 1 ≡ m → (b == 45) ≡ true
    → without_leading_sign (take (m + prefix_len is_digit (drop m (b ∷ bs))) (b ∷ bs)) ≡ take (prefix_len is_digit (drop m (b ∷ bs))) (drop m (b ∷ bs))
with_minus b bs m one minus = rw (← one) (ap without_leading_sign (take_prefix _ (prefix_len is_digit bs) b bs refl) ∙ unsigned_minus b (take (prefix_len is_digit bs) bs) minus)

bare_run : (b : ℕ) (bs : List ℕ) → 0 < prefix_len is_digit (b ∷ bs)
    → without_leading_sign (take (prefix_len is_digit (b ∷ bs)) (b ∷ bs)) ≡ take (prefix_len is_digit (b ∷ bs)) (b ∷ bs)
bare_run b bs some =
    elim (tested (is_digit b)) [
      | inl digit ↦ (
          let whole : take (prefix_len is_digit (b ∷ bs)) (b ∷ bs) ≡ b ∷ take (prefix_len is_digit bs) bs = take_prefix _ (prefix_len is_digit bs) b bs (rw digit refl) in
          ap without_leading_sign whole ∙ unsigned_plain b (take (prefix_len is_digit bs) bs) digit ∙ sym whole)
      | inr other ↦ (let no = rw other at some in absurd (omega (arith, no)))
    ]

without : (b : ℕ) (bs : List ℕ) (m : ℕ) → 0 ≡ m → 0 < prefix_len is_digit (drop m (b ∷ bs))
    → without_leading_sign (take (m + prefix_len is_digit (drop m (b ∷ bs))) (b ∷ bs)) ≡ take (prefix_len is_digit (drop m (b ∷ bs))) (drop m (b ∷ bs))
without b bs m none some =
    let there : 0 < prefix_len is_digit (b ∷ bs) = rw (← none) at some in
    let zero_more : 0 + prefix_len is_digit (b ∷ bs) ≡ prefix_len is_digit (b ∷ bs) = omega arith in
    rw (← none) (ap (λ k. without_leading_sign (take k (b ∷ bs))) zero_more ∙ bare_run b bs there)

-- a numeral without its sign
unsigned : (bytes : List ℕ) (m : ℕ) → minus_len bytes ≡ m → 0 < prefix_len is_digit (drop m bytes)
    → without_leading_sign (take (m + prefix_len is_digit (drop m bytes)) bytes) ≡ take (prefix_len is_digit (drop m bytes)) (drop m bytes)
unsigned [] m is some = absurd (omega (arith, drop_nil_len m))
unsigned (b ∷ bs) m is some =
    elim (tested (b == 45)) [
      | inl minus ↦ (let one : 1 ≡ m = rw minus at is in with_minus b bs m one minus)
      | inr plain ↦ (let none : 0 ≡ m = rw plain at is in without b bs m none some)
    ]

pub numeral_run : (bytes : List ℕ) → 0 < prefix_len is_digit (drop (minus_len bytes) bytes)
    → IsNumeral 10 (without_leading_sign (take (minus_len bytes + prefix_len is_digit (drop (minus_len bytes) bytes)) bytes))
numeral_run bytes some =
    let digits = drop (minus_len bytes) bytes in
    rw (unsigned bytes _ refl some) (omega (arith, length-prefix_len is_digit digits), run_digits digits)

-- the same of the numbers that were found
pub last_byte : (bytes : List ℕ) (m n : ℕ) → m ≡ minus_len bytes → n ≡ prefix_len is_digit (drop (minus_len bytes) bytes) → 0 < n
    → (0 < get_or bytes (m + n - 1) 0) × (get_or bytes (m + n - 1) 0 < 128)
last_byte bytes m n minus count some =
    let there : 0 < prefix_len is_digit (drop (minus_len bytes) bytes) = rw (← count) some in
    let digit : is_digit (get_or bytes (m + n - 1) 0) ≡ true = rw (minus, count) (last_digit bytes there) in
    byte_of_digit (get_or bytes (m + n - 1) 0) digit

pub numeral_span : (bytes span : List ℕ) (m n : ℕ) → m ≡ minus_len bytes → n ≡ prefix_len is_digit (drop (minus_len bytes) bytes) → 0 < n
    → span ≡ take (m + n) bytes → IsNumeral 10 (without_leading_sign span)
numeral_span bytes span m n minus count some prefix =
    let there : 0 < prefix_len is_digit (drop (minus_len bytes) bytes) = rw (← count) some in
    rw (prefix, minus, count) (numeral_run bytes there)
