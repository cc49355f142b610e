use Rattle.std.proofs.Common.{ap, arith}
use Rattle.query_core.specs.Filters.{height, operands_height, operands_of}
use Rattle.query_core.proofs.FilterLemmas.{operand_height}
use Rattle.query_core.proofs.clones.+clone_of.Goals as goal

-- an operand has a smaller height than the filter
pub clone_of_operands-clone_of-requires : goal.clone_of_operands-clone_of-requires
clone_of_operands-clone_of-requires t c = (
  omega (
    arith,
    ap height c.operand-item.is,
    operand_height c.deref-operand-items.result.now c.loop-operand.operand-index c.operand-item.result (omega arith),
    ap (λ fs. operands_height (operands_of fs)) c.deref-operand-items.ensures.value,
  ),
  tt,
)
