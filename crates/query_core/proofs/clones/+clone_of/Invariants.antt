use Rattle.std.proofs.Common.{◌≡◌, ◌+◌, ◌*◌, take}
use Rattle.query_core.specs.Filters.{height, operands_height, operands_of}
use Rattle.query_core.proofs.clones.+clone_of.Given as goal

abbrev pub decreases-clone_of : goal.decreases-clone_of
decreases-clone_of l = 2 * height l.filter.now

abbrev pub decreases-clone_of_operand : goal.decreases-clone_of_operand
decreases-clone_of_operand l = 2 * height l.operand.now.value + 1

abbrev pub decreases-clone_of_operands : goal.decreases-clone_of_operands
decreases-clone_of_operands l = 2 * operands_height (operands_of l.operands.now.items) + 1

abbrev pub invariant-clone_of_operands-loop-operand : goal.invariant-clone_of_operands-loop-operand
invariant-clone_of_operands-loop-operand l = l.clones.items ≡ take l.operand-index l.operand-items
