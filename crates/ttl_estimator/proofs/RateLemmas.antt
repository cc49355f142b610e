-- The last clocks of a record, and sums of rates.
use Rattle.std.proofs.Common.{◌≡◌, ℕ, Bool, cond, ◌-◌, ◌/◌, ◌<◌, min, List, [], ◌∷◌, ◌++◌, length, drop, sym, ap, ◌∙◌, arith, inl, inr}
use Rattle.std.proofs.lemmas.Bool.{cases_lt, ne_eqb}
use Rattle.std.proofs.lemmas.List.{drop-append-le, length-append}
use Rattle.std.proofs.lemmas.Nat.{div_below}
use Rattle.ttl_estimator.specs.Lifetime.{within, poisson}
use Rattle.ttl_estimator.specs.Rates.{last_eight}
use Rattle.ttl_estimator.specs.declared.limits.Limits.{Limits}

-- the last seven and one more are the last eight
pub one_more : (clocks kept : List ℕ) (clock : ℕ) → kept ≡ drop (length clocks - 7) clocks → kept ++ clock ∷ [] ≡ last_eight (clocks ++ clock ∷ [])
one_more clocks kept clock is =
    let size : length clocks - 7 ≡ length (clocks ++ clock ∷ []) - 8 = omega (arith, length-append clocks (clock ∷ [])) in
    ap (λ (xs : List ℕ). xs ++ clock ∷ []) is
    ∙ sym (drop-append-le (length clocks - 7) clocks (clock ∷ []) (omega arith))
    ∙ ap (λ (n : ℕ). drop n (clocks ++ clock ∷ [])) size

-- a quotient by more than the dividend
none_whole : (n d : ℕ) → n < d → n / d ≡ 0
none_whole n d more = (let below = div_below n d 1 (omega arith) (omega arith) in omega (arith, below))

-- a sum of rates that is above the dividend counts as the greatest number
poisson_capped : (g : Limits) (most rates : ℕ) → 693147 < most → poisson g (min most rates) ≡ poisson g rates
poisson_capped g most rates large =
    elim (cases_lt most rates) [
      | inl over ↦ (
          let full : min most rates ≡ most = omega arith in
          let zero : 693147 / most ≡ 0 = none_whole 693147 most large in
          let same : 693147 / rates ≡ 0 = none_whole 693147 rates (omega arith) in
          ap (poisson g) full ∙ by most (omega arith) zero ∙ sym (by rates (omega arith) same))
      | inr fits ↦ (let same : min most rates ≡ rates = omega arith in ap (poisson g) same)
    ]
  where
    by : (n : ℕ) → 0 < n → 693147 / n ≡ 0 → poisson g n ≡ within g 0
    by n some is =
        ap (λ (b : Bool). within g (cond b g.high (693147 / n))) (ne_eqb n 0 (λ e. omega (arith, e, some))) ∙ ap (within g) is

pub poisson_full : (g : Limits) (rates : ℕ) → poisson g (min 18446744073709551615 rates) ≡ poisson g rates
poisson_full g rates = poisson_capped g 18446744073709551615 rates (omega arith)
