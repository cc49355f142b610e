use Rattle.std.proofs.Common.{◌≡◌, ◌+◌, ◌*◌, ◌≤◌, ◌++◌, length}
use Rattle.std.specs.Vec.Iter.{into_iter_items, into_iter_len}
use Rattle.query_core.specs.Filters.{height, operands_height, operands_of}
use Rattle.query_normal.specs.Normal.{normal_parts}
use Rattle.query_normal.proofs.filters.+normal_filter.Given as goal

abbrev pub decreases-normal_filter : goal.decreases-normal_filter
decreases-normal_filter l = 2 * height l.filter

abbrev pub decreases-normal_parts : goal.decreases-normal_parts
decreases-normal_parts l = 2 * operands_height (operands_of l.operands.items) + 1

abbrev pub invariant-normal_parts-loop-operand : goal.invariant-normal_parts-loop-operand
invariant-normal_parts-loop-operand l = record {
  done : l.parts.items ++ normal_parts l.negative l.is_and (operands_of (into_iter_items l.operand-iterator)) ≡ normal_parts l.negative l.is_and (operands_of l.fn.operands.items);
  heights : operands_height (operands_of (into_iter_items l.operand-iterator)) ≤ operands_height (operands_of l.fn.operands.items);
  length : into_iter_len l.operand-iterator ≡ length (into_iter_items l.operand-iterator);
}
