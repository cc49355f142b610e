use Rattle.std.proofs.Common.{◌≡◌, ◌+◌, ◌*◌, ◌++◌, drop}
use Rattle.query_core.specs.Filters.{height, operands_height, operands_of}
use Rattle.query_core.specs.Print.{every_rest, some_rest}
use Rattle.query_core.proofs.print.+write_filter.Given as goal

abbrev pub decreases-write_filter : goal.decreases-write_filter
decreases-write_filter l = 3 * height l.filter.now

abbrev pub decreases-write_not : goal.decreases-write_not
decreases-write_not l = 3 * height l.operand.now + 2

abbrev pub decreases-write_every : goal.decreases-write_every
decreases-write_every l = 3 * operands_height (operands_of l.operands.now) + 2

abbrev pub decreases-write_some : goal.decreases-write_some
decreases-write_some l = 3 * operands_height (operands_of l.operands.now) + 2

abbrev pub decreases-write_operand : goal.decreases-write_operand
decreases-write_operand l = 3 * height l.operand.now + 1

abbrev pub invariant-write_every-loop-operand : goal.invariant-write_every-loop-operand
invariant-write_every-loop-operand l = l.out.items ++ every_rest (operands_of (drop l.operand-index l.rest)) ≡ l.initial.out.items ++ every_rest (operands_of l.rest)

abbrev pub invariant-write_some-loop-operand : goal.invariant-write_some-loop-operand
invariant-write_some-loop-operand l = l.out.items ++ some_rest (operands_of (drop l.operand-index l.rest)) ≡ l.initial.out.items ++ some_rest (operands_of l.rest)
