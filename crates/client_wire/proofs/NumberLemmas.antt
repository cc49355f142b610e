-- Numbers that digits write, up to a limit.
use Rattle.std.proofs.Common.{◌≡◌, ℕ, ◌+◌, ◌<◌, ◌≤◌, min, List, true, false, refl, arith, nat_le}
use Rattle.std.proofs.lemmas.Bool.{lt-leb, le-leb}
use Rattle.std.specs.Prelude.{Some, None}
use Rattle.std.specs.Str.Parse.{digits_value}
use Rattle.client_wire.specs.Numbers.{is_number, number_within}

-- a text that is no number, one that is above the limit, and one within it
pub no_number : (text : List ℕ) (most : ℕ) → is_number text ≡ false → number_within most text ≡ None
unfolding number_within
no_number text most other = rw other refl

pub number_above : (text : List ℕ) (most number : ℕ) → is_number text ≡ true
    → number ≡ min (digits_value 10 text) (most + 1) → most < number → number_within most text ≡ None
unfolding number_within
number_above text most number digits is above =
    let not_fits : nat_le (digits_value 10 text) most ≡ false = lt-leb (digits_value 10 text) most (omega arith) in
    rw (digits, not_fits) refl

pub number_fits : (text : List ℕ) (most number : ℕ) → is_number text ≡ true
    → number ≡ min (digits_value 10 text) (most + 1) → number ≤ most → number_within most text ≡ Some number
unfolding number_within
number_fits text most number digits is low =
    let fits : nat_le (digits_value 10 text) most ≡ true = le-leb (digits_value 10 text) most (omega arith) in
    let value : digits_value 10 text ≡ number = omega arith in
    rw (digits, fits, value) refl
