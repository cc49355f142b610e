use Rattle.std.proofs.Common.{◌≡◌, ◌+◌, ◌*◌, drop}
use Rattle.query_core.specs.Filters.{height, operands_height, operands_of}
use Rattle.query_core.specs.Same.{same_operands}
use Rattle.query_core.proofs.equality.+same_filter.Given as goal

abbrev pub decreases-same_filter : goal.decreases-same_filter
decreases-same_filter l = 2 * height l.a.now

abbrev pub decreases-same_operands : goal.decreases-same_operands
decreases-same_operands l = 2 * operands_height (operands_of l.xs.now) + 1

abbrev pub invariant-same_operands-loop-i : goal.invariant-same_operands-loop-i
invariant-same_operands-loop-i l = same_operands (operands_of l.xs) (operands_of l.ys) ≡ same_operands (operands_of (drop l.i l.xs)) (operands_of (drop l.i l.ys))
