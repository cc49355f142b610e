-- Internal. The moments of a clock over a list.
use Rattle.std.specs.Prelude.{◌≡◌, ℕ, List, [], ◌∷◌}

-- the clock gives the first of its moments and drops it, unless it is the last
abbrev pub TicksNext : List ℕ → ℕ → List ℕ → Type 0
TicksNext [] moment after = ⊥
TicksNext (first ∷ []) moment after = (moment ≡ first) × (after ≡ first ∷ [])
TicksNext (first ∷ second ∷ others) moment after = (moment ≡ first) × (after ≡ second ∷ others)
