use Rattle.std.proofs.Common.{ap, arith, sym, ◌∙◌}
use Rattle.query_core.specs.Filters.{height}
use Rattle.query_core.proofs.FilterLemmas.{operand_height, same_operands_end}
use Rattle.query_core.proofs.equality.+same_filter.Goals as goal

-- an operand has a smaller height than the filter
pub same_operands-same_filter-requires : goal.same_operands-same_filter-requires
same_operands-same_filter-requires t c =
    (omega (arith, ap height c.index-xs-i.is, operand_height c.args.xs.now c.loop-i.i c.index-xs-i.result (omega arith)), tt)

-- the pairs were all equal, so the lengths decide
pub same_operands-returns : goal.same_operands-returns
same_operands-returns t c = sym (same_operands_end c.loop-i.i c.args.xs.now c.args.ys.now (omega arith)) ∙ sym c.loop-i.invariant
