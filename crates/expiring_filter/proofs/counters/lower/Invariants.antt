use Rattle.std.proofs.Common.{◌≡◌, ℕ, ◌+◌, ◌<◌, length, get_or, take}
use Rattle.expiring_filter.specs.Counts.{times, IsFlat}
use Rattle.expiring_filter.proofs.counters.lower.Given as goal

abbrev pub invariant-loop-position : goal.invariant-loop-position
invariant-loop-position l = record {
  counted : (j : ℕ) → j < length l.counters → get_or l.counters j 0 + times j (take l.position-index l.positions) ≡ get_or l.initial.counters j 0;
  flat : IsFlat l.counters l.bytes;
}
