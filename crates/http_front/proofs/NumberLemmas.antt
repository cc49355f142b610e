-- The numbers that texts of digits are.
use Rattle.std.proofs.Common.{◌≡◌, ℕ, ◌<◌, ◌^◌, true, false, List, length, sym, ◌∙◌, ap, arith, rules}
use Rattle.std.proofs.lemmas.Bool.{ltb-true, and_parts, and_from, and_left, and_right, le-leb, lt-leb, cond-true, cond-false}
use Rattle.std.proofs.lemmas.List.Elements.{All-from_get_or}
use Rattle.std.proofs.lemmas.Str.{IsUtf8-from_ascii}
use Rattle.std.proofs.lemmas.Str.Ascii.{IsAscii-from_all}
use Rattle.std.proofs.lemmas.Str.Parse.{IsNumeralModel, numerals_by_value, digit_at}
use Rattle.std.specs.Char.{is_ascii_digit}
use Rattle.std.specs.List.{list_all}
use Rattle.std.specs.Str.{IsUtf8}
use Rattle.std.specs.Str.Parse.{digits_value}
use Rattle.std.specs.Prelude.{Some, None}
use Rattle.http_front.specs.Numbers.{is_decimal, number_of}

-- texts of digits, and their numbers
pub own : IsNumeralModel (λ ds. list_all is_ascii_digit ds ≡ true) (digits_value 10)
own = numerals_by_value _ (search rules)

-- a decimal number is some digits
pub decimal_digits : (text : List ℕ) → is_decimal text ≡ true → list_all is_ascii_digit text ≡ true
decimal_digits text e = (and_parts _ _ e).1

pub decimal_some : (text : List ℕ) → is_decimal text ≡ true → 0 < length text
decimal_some text e = ltb-true 0 (length text) (and_parts _ _ (and_parts _ _ e).0).0

-- digits are ASCII
pub digits_utf8 : (text : List ℕ) → list_all is_ascii_digit text ≡ true → IsUtf8 text
digits_utf8 text e =
    let digits = own.to text e in
    IsUtf8-from_ascii text (IsAscii-from_all text (All-from_get_or (λ b. b < 128) text 0 (λ i low.
    let range = digit_at text i digits low in omega (arith, range.1))))

-- no number without digits
pub number_of_bad : (text : List ℕ) → is_decimal text ≡ false → number_of text ≡ None
unfolding number_of
number_of_bad text e = cond-false _ _ _ (and_left _ _ e)

-- one that fits
pub number_of_fit : (text : List ℕ) (n : ℕ) → is_decimal text ≡ true → digits_value 10 text < 2 ^ 64 → n ≡ digits_value 10 text
    → number_of text ≡ Some n
unfolding number_of
number_of_fit text n e fits is =
    cond-true _ _ _ (and_from _ _ e (le-leb (digits_value 10 text) 18446744073709551615 (omega arith)))
    ∙ ap (λ k. Some k) (sym is)

-- one that does not
pub number_of_large : (text : List ℕ) → (digits_value 10 text < 2 ^ 64 → ⊥) → number_of text ≡ None
unfolding number_of
number_of_large text large =
    cond-false _ _ _ (and_right _ _ (lt-leb (digits_value 10 text) 18446744073709551615 (omega arith)))
