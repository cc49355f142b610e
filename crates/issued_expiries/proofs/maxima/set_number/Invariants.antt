use Rattle.std.proofs.Common.{◌≡◌, ℕ, ◌+◌, ◌*◌, ◌≤◌, length, get_or}
use Rattle.issued_expiries.specs.Maxima.{IsMaximaBut}
use Rattle.issued_expiries.proofs.maxima.set_number.Given as goal

abbrev pub invariant-loop-node : goal.invariant-loop-node
invariant-loop-node l = record {
  maxima : IsMaximaBut 1 l.node l.tree;
  within : 2 * l.node + 1 ≤ length l.tree;
  row : (i : ℕ) → length l.tree ≤ 2 * i → get_or l.tree i 0 ≡ get_or l.initial.tree i 0;
}

abbrev pub decreases-loop-node : goal.decreases-loop-node
decreases-loop-node l = l.node
