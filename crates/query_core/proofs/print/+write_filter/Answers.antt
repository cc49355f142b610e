use Rattle.std.proofs.Common.{ap, arith}
use Rattle.query_core.specs.Filters.{height, operands_height, operands_of}
use Rattle.query_core.proofs.FilterLemmas.{operand_height}
use Rattle.query_core.proofs.print.+write_filter.Goals as goal

-- an operand has a smaller height than the filter
pub write_every-write_operand-requires-in-loop-operand :
    goal.write_every-write_operand-requires-in-loop-operand
write_every-write_operand-requires-in-loop-operand t c = (
  omega (
    arith,
    ap height c.operand-item.is,
    operand_height c.in-Some.rest.now c.loop-operand.operand-index c.operand-item.result (omega arith),
    ap (λ fs. operands_height (operands_of fs)) c.in-Some.ensures.cases.0,
  ),
  tt,
)

-- the same for `or`
pub write_some-write_operand-requires-in-loop-operand :
    goal.write_some-write_operand-requires-in-loop-operand
write_some-write_operand-requires-in-loop-operand t c = (
  omega (
    arith,
    ap height c.operand-item.is,
    operand_height c.in-Some.rest.now c.loop-operand.operand-index c.operand-item.result (omega arith),
    ap (λ fs. operands_height (operands_of fs)) c.in-Some.ensures.cases.0,
  ),
  tt,
)
