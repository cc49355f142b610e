-- Believed. The rate at which a record is written.
use Rattle.std.specs.Prelude.{ℕ, ◌-◌, ◌*◌, ◌/◌, max, List, length, drop, slice_get}
use Rattle.std.specs.Option.{option_map_or}

-- the last eight of these clocks, or all where there are fewer
abbrev pub last_eight : List ℕ → List ℕ
last_eight clocks = drop (length clocks - 8) clocks

-- the writes in a million seconds, by the clocks of the last writes, the oldest first; 0 without a write
abbrev pub rate_at : ℕ → List ℕ → ℕ
rate_at now clocks = option_map_or (λ oldest. length clocks * 1000000 / max (now - oldest) 1) (slice_get clocks 0) 0
