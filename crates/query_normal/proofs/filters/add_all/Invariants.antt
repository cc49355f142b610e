use Rattle.std.proofs.Common.{◌≡◌, ◌++◌, length}
use Rattle.std.specs.Vec.Iter.{into_iter_items, into_iter_len}
use Rattle.query_normal.proofs.filters.add_all.Given as goal

abbrev pub invariant-loop-operand : goal.invariant-loop-operand
invariant-loop-operand l = record {
  done : l.parts.items ++ into_iter_items l.operand-iterator ≡ l.initial.parts.items ++ l.fn.operands.items;
  length : into_iter_len l.operand-iterator ≡ length (into_iter_items l.operand-iterator);
}
