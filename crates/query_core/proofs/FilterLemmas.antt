-- The operands of filters: their height, and when two lists of them are equal from some index on.
use Rattle.std.proofs.Common.{◌≡◌, ℕ, zero, suc, ◌<◌, ◌≤◌, min, List, [], ◌∷◌, length, get_or, drop, eqb, false, refl, sym, ◌∙◌, arith}
use Rattle.std.proofs.lemmas.Bool.Decides.{nat_tests}
use Rattle.query_core.specs.Filters.{Filter, height, operands_height, operands_of}
use Rattle.query_core.specs.Same.{same_operands}

-- an operand is no higher than the operands
pub operand_height : (fs : List Filter) (i : ℕ) (d : Filter) → i < length fs → height (get_or fs i d) ≤ operands_height (operands_of fs)
operand_height [] i d h = absurd (omega arith)
operand_height (f ∷ fs) zero d h = omega arith
operand_height (f ∷ fs) (suc i) d h = omega (arith, operand_height fs i d (omega arith))

eqb-above : (n : ℕ) → eqb 0 (suc n) ≡ false
eqb-above n = grind (arith, nat_tests)

eqb-below : (n : ℕ) → eqb (suc n) 0 ≡ false
eqb-below n = grind (arith, nat_tests)

eqb-suc : (m n : ℕ) → eqb m n ≡ eqb (suc m) (suc n)
eqb-suc m n = grind (arith, nat_tests)

-- where one of two lists ends, the lengths decide
pub same_operands_end : (n : ℕ) (fs gs : List Filter) → n ≡ min (length fs) (length gs) → same_operands (operands_of (drop n fs)) (operands_of (drop n gs)) ≡ eqb (length fs) (length gs)
same_operands_end zero [] [] e = refl
same_operands_end zero [] (g ∷ gs) e = sym (eqb-above (length gs))
same_operands_end zero (f ∷ fs) [] e = sym (eqb-below (length fs))
same_operands_end zero (f ∷ fs) (g ∷ gs) e = absurd (omega arith)
same_operands_end (suc n) [] gs e = absurd (omega arith)
same_operands_end (suc n) (f ∷ fs) [] e = absurd (omega arith)
same_operands_end (suc n) (f ∷ fs) (g ∷ gs) e = same_operands_end n fs gs (omega arith) ∙ eqb-suc (length fs) (length gs)
