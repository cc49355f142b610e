-- The number of digits of a number, and numbers that were written.
use Rattle.std.proofs.Common.{◌≡◌, ℕ, ◌+◌, ◌/◌, ◌%◌, ◌^◌, ◌<◌, ◌≤◌, List, [], ◌∷◌, ◌++◌, length, take, drop, decimal, arith, ap, sym, ◌∙◌}
use Rattle.std.proofs.lemmas.Fmt.{decimal_digit, decimal_step, length-decimal-le}
use Rattle.std.proofs.lemmas.List.{length-append}
use Rattle.std.proofs.Math.Seq.{take-add, take-append_seam}

-- below ten there is one digit
pub one_digit : (n : ℕ) → n < 10 → length (decimal n) ≡ 1
one_digit n few = ap length (decimal_digit n few)

-- from ten on there is one more than of a tenth
pub digit_more : (n : ℕ) → 10 ≤ n → n < 2 ^ 64 → length (decimal n) ≡ length (decimal (n / 10)) + 1
digit_more n many fits = ap length (decimal_step n many fits) ∙ length-append (decimal (n / 10)) ((48 + n % 10) ∷ [])

-- below a hundred there are two
pub two_digits : (n : ℕ) → 10 ≤ n → n < 100 → length (decimal n) ≡ 2
two_digits n many few =
    let more = digit_more n many (omega arith) in
    let one = one_digit (n / 10) (omega arith) in
    omega arith

-- below a thousand there are three
pub three_digits : (n : ℕ) → 100 ≤ n → n < 1000 → length (decimal n) ≡ 3
three_digits n many few =
    let more = digit_more n (omega arith) (omega arith) in
    let two = two_digits (n / 10) (omega arith) (omega arith) in
    omega arith

-- below ten thousand there are four
pub four_digits : (n : ℕ) → 1000 ≤ n → n < 10000 → length (decimal n) ≡ 4
four_digits n many few =
    let more = digit_more n (omega arith) (omega arith) in
    let three = three_digits (n / 10) (omega arith) (omega arith) in
    omega arith

-- the digits of a number below ten thousand
pub ruleset short_numbers = (one_digit, two_digits, three_digits, four_digits)

-- from ten thousand on there are four more than of what is left without four
pub four_more : (n : ℕ) → 10000 ≤ n → n < 2 ^ 64 → length (decimal n) ≡ length (decimal (n / 10000)) + 4
four_more n many fits =
    let first = digit_more n (omega arith) fits in
    let second = digit_more (n / 10) (omega arith) (omega arith) in
    let third = digit_more (n / 10 / 10) (omega arith) (omega arith) in
    let fourth = digit_more (n / 10 / 10 / 10) (omega arith) (omega arith) in
    let same : n / 10 / 10 / 10 / 10 ≡ n / 10000 = omega arith in
    let last = ap (λ m. length (decimal m)) same in
    omega arith

-- a number of 64 bits has at most 20
pub few_digits : (n : ℕ) → n < 2 ^ 64 → length (decimal n) ≤ 20
few_digits n fits = length-decimal-le 20 n (omega arith) (omega arith) fits

-- digits that were written from an offset on follow what was there
pub number_put : (at start end : ℕ) (old new digits : List ℕ) → start + length digits ≡ end → end ≡ at + length digits → drop start new ≡ digits ++ drop end old → take start new ≡ take start old → take end new ≡ take at old ++ digits
number_put at start end old new digits starts ends written before =
    let same : start ≡ at = omega arith in
    ap (λ k. take k new) (sym starts)
    ∙ take-add start (length digits) new
    ∙ ap (λ t. t ++ take (length digits) (drop start new)) before
    ∙ ap (λ t. take start old ++ take (length digits) t) written
    ∙ ap (λ t. take start old ++ t) (take-append_seam digits (drop end old))
    ∙ ap (λ k. take k old ++ digits) same
