-- Internal. Counters at positions, and a bit for each that is above 0.
use Rattle.std.specs.Prelude.{◌≡◌, ℕ, ◌==◌, List, map, count_by, nat_lt}
use Rattle.query_normal.specs.Bits.{flat_bits}

-- the number of times that j is among the positions
abbrev pub times : ℕ → List ℕ → ℕ
times j positions = count_by (λ p. p == j) positions

-- the bits of the bytes are set exactly where the counters are above 0
abbrev pub IsFlat : List ℕ → List ℕ → Type 0
IsFlat counters bytes = flat_bits bytes ≡ map (λ n. nat_lt 0 n) counters
