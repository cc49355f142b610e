use Rattle.std.proofs.Common.{ℕ, ◌<◌, ◌≤◌, ◌↔◌, length}
use Rattle.issued_expiries.specs.Maxima.{IsAtMost}
use Rattle.issued_expiries.proofs.maxima.greatest_between.Given as goal

abbrev pub invariant-loop-low : goal.invariant-loop-low
invariant-loop-low l = record {
  low : l.low < l.high → 1 ≤ l.low;
  high : l.high ≤ length l.tree;
  bound : (n : ℕ) → IsAtMost l.tree l.first l.end n ↔ ((l.greatest ≤ n) × IsAtMost l.tree l.low l.high n);
}

abbrev pub decreases-loop-low : goal.decreases-loop-low
decreases-loop-low l = l.high
