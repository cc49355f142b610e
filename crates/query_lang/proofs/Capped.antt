-- Sums that stop at the greatest number of 64 bits, and filters that are kept below the limit.
use Rattle.std.proofs.Common.{◌≡◌, ℕ, suc, ◌+◌, ◌-◌, ◌^◌, min, max, true, cond, nat_lt, List, [], ◌∷◌, ◌++◌, refl, sym, ap, ◌∙◌, inl, inr, arith}
use Rattle.std.proofs.lemmas.Bool.{cases_lt}
use Rattle.std.proofs.lemmas.Bool.Decides.{nat_tests}
use Rattle.query_core.specs.Filters.{Filter, constant, negated, height}
use Rattle.query_core.specs.Limits.{leaves, most_height}
use Rattle.query_lang.specs.FilterReading.{capped_sum, kept, negated_times, State, atom}
use Rattle.query_lang.specs.declared.filter_reader.Level.{Level}
use Rattle.query_lang.specs.declared.filter_reader.Pending.{Pending}
use Rattle.query_lang.specs.declared.filter_reader.Pending.TheVariants as pending

-- the limit is far below the greatest number
pub above_limit : (n : ℕ) → nat_lt most_height (min n (2 ^ 64 - 1)) ≡ nat_lt most_height n
above_limit n = grind (arith, nat_tests)

-- a filter is kept by its height or by its capped height
pub kept_capped : (n : ℕ) (f : Filter) → kept (min n (2 ^ 64 - 1)) f ≡ kept n f
kept_capped n f = ap (λ b. cond b (constant true) f) (above_limit n)

-- one negation more
pub kept_negated : (h k : ℕ) (f : Filter) → kept (h + capped_sum k 1) (negated_times (capped_sum k 1) f) ≡ kept (suc h + k) (negated_times k (negated f))
kept_negated h k f =
    elim (cases_lt k (2 ^ 64 - 1)) [
      | inl small ↦ (
          let next : capped_sum k 1 ≡ suc k = omega arith in
          let same : h + suc k ≡ suc h + k = omega arith in
          ap (λ n. kept (h + n) (negated_times n f)) next ∙ ap (λ n. kept n (negated_times k (negated f))) same)
      | inr large ↦ (
          let left : nat_lt most_height (h + capped_sum k 1) ≡ true = grind (arith, nat_tests) in
          let right : nat_lt most_height (suc h + k) ≡ true = grind (arith, nat_tests) in
          rw (left, right) refl)
    ]

-- an operand that means f, after the `not` of the level
abbrev pub plus : Filter → State → State
plus f s = record s {
  pending = pending.Joint;
  leaves = capped_sum s.leaves (leaves f);
  operands = s.operands ++ kept (height f + s.level.nots) (negated_times s.level.nots f) ∷ [];
  level = record s.level { nots = 0; all_height = max s.level.all_height (capped_sum (height f) s.level.nots) };
}

abbrev state_with : Pending → ℕ → List Filter → Level → List Level → State
state_with p l o v u = record { pending = p; leaves = l; operands = o; level = v; outer = u }

-- two states of equal parts
pub same_state : (a b : State) → a.pending ≡ b.pending → a.leaves ≡ b.leaves → a.operands ≡ b.operands → a.level ≡ b.level → a.outer ≡ b.outer → a ≡ b
same_state a b p l o v u =
    ap (λ x. state_with x a.leaves a.operands a.level a.outer) p ∙ ap (λ x. state_with b.pending x a.operands a.level a.outer) l
    ∙ ap (λ x. state_with b.pending b.leaves x a.level a.outer) o ∙ ap (λ x. state_with b.pending b.leaves b.operands x a.outer) v
    ∙ ap (λ x. state_with b.pending b.leaves b.operands b.level x) u

abbrev level_with : ℕ → ℕ → ℕ → ℕ → ℕ → Level
level_with n p q r h = record { nots = n; any_from = p; any_height = q; all_from = r; all_height = h }

-- two levels of equal parts
pub same_level : (a b : Level) → a.nots ≡ b.nots → a.any_from ≡ b.any_from → a.any_height ≡ b.any_height → a.all_from ≡ b.all_from → a.all_height ≡ b.all_height → a ≡ b
same_level a b n p q r h =
    ap (λ x. level_with x a.any_from a.any_height a.all_from a.all_height) n ∙ ap (λ x. level_with b.nots x a.any_height a.all_from a.all_height) p
    ∙ ap (λ x. level_with b.nots b.any_from x a.all_from a.all_height) q ∙ ap (λ x. level_with b.nots b.any_from b.any_height x a.all_height) r
    ∙ ap (λ x. level_with b.nots b.any_from b.any_height b.all_from x) h

-- an atom is an operand
pub atom_plus : (f : Filter) (values : ℕ) (s : State) → height f ≡ 1 → leaves f ≡ 1 + values → atom f values s ≡ plus f s
atom_plus f values s low count =
    same_state (atom f values s) (plus f s) refl
    (let n = s.leaves in let more : capped_sum (capped_sum n values) 1 ≡ capped_sum n (leaves f) = rw count (omega arith) in more)
    (ap (λ g. s.operands ++ g ∷ []) (kept_capped (1 + s.level.nots) (negated_times s.level.nots f) ∙ ap (λ h. kept (h + s.level.nots) (negated_times s.level.nots f)) (sym low)))
    (ap (λ h. record s.level { nots = 0; all_height = max s.level.all_height (capped_sum h s.level.nots) }) (sym low))
    refl

-- one `not` more before an operand
abbrev pub with_not : State → State
with_not s = record s { pending = pending.Operand; level = record s.level { nots = capped_sum s.level.nots 1 } }

pub plus_negated : (f : Filter) (s : State) → plus f (with_not s) ≡ plus (negated f) s
plus_negated f s =
    same_state (plus f (with_not s)) (plus (negated f) s) refl refl
    (ap (λ g. s.operands ++ g ∷ []) (kept_negated (height f) s.level.nots f))
    (let h = height f in let n = s.level.nots in let most = s.level.all_height in
    let same : max most (capped_sum h (capped_sum n 1)) ≡ max most (capped_sum (suc h) n) = omega arith in
    ap (λ m. record s.level { nots = 0; all_height = m }) same)
    refl
