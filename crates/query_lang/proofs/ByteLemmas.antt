-- Runs of bytes, and where a text may be cut.
use Rattle.std.proofs.Common.{◌≡◌, ℕ, zero, suc, ◌<◌, Bool, true, List, length, get_or, IsUtf8, refl, inl, inr, arith, add-one}
use Rattle.std.proofs.lemmas.Bool.{cases_lt}
use Rattle.std.proofs.lemmas.Bool.Decides.{nat_tests}
use Rattle.std.proofs.lemmas.List.{get_or_past}
use Rattle.std.proofs.lemmas.List.Sums.{prefix_len-le-length, prefix_len_passes}
use Rattle.std.proofs.lemmas.Str.{IsCharBoundary-start, IsCharBoundary-after_ascii}
use Rattle.std.specs.List.{prefix_len}
use Rattle.std.specs.Str.{IsCharBoundary}
use Rattle.query_lang.specs.declared.bytes.Class.{Class}
use Rattle.query_lang.specs.declared.bytes.Class.TheVariants.{Blank, Word, Digit}
use Rattle.query_lang.specs.Bytes.{class_test}

-- a byte that is not 0 was read inside the text
pub within_from_byte : (xs : List ℕ) (i : ℕ) → 0 < get_or xs i 0 → i < length xs
within_from_byte xs i h = elim (cases_lt i (length xs)) [ inl within ↦ within | inr past ↦ absurd (omega (arith, get_or_past xs i 0 past)) ]

after_ascii_run : (p : ℕ → Bool) (bs : List ℕ) (n : ℕ) → prefix_len p bs ≡ n → IsUtf8 bs → ((c : ℕ) → p c ≡ true → c < 128) → IsCharBoundary bs n
after_ascii_run p bs zero e utf8 ascii = IsCharBoundary-start bs utf8
after_ascii_run p bs (suc k) e utf8 ascii =
    rw (← add-one) (IsCharBoundary-after_ascii bs k utf8 (omega (arith, prefix_len-le-length p bs)) (ascii _ (prefix_len_passes p bs k 0 (omega arith))))

-- the bytes of a class are ASCII
pub class_ascii : (class : Class) (c : ℕ) → class_test class c ≡ true → c < 128
class_ascii Blank c e = grind (arith, nat_tests)
class_ascii Word c e = grind (arith, nat_tests)
class_ascii Digit c e = grind (arith, nat_tests)

-- a run of a class ends where a character does
pub IsCharBoundary-run : (class : Class) (bs : List ℕ) → IsUtf8 bs → IsCharBoundary bs (prefix_len (class_test class) bs)
IsCharBoundary-run class bs utf8 = after_ascii_run (class_test class) bs _ refl utf8 (class_ascii class)
