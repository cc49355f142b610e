use Rattle.std.proofs.Common.{ap, arith}
use Rattle.query_core.specs.Filters.{height}
use Rattle.query_core.proofs.FilterLemmas.{operand_height}
use Rattle.query_core.proofs.meaning.+satisfies.Goals as goal

-- an operand has a smaller height than the filter
pub satisfies_every-satisfies-requires : goal.satisfies_every-satisfies-requires
satisfies_every-satisfies-requires t c =
    (omega (arith, ap height c.operand-item.is, operand_height c.args.operands.now c.loop-operand.operand-index c.operand-item.result (omega arith)), tt)

-- the same for `or`
pub satisfies_some-satisfies-requires : goal.satisfies_some-satisfies-requires
satisfies_some-satisfies-requires t c =
    (omega (arith, ap height c.operand-item.is, operand_height c.args.operands.now c.loop-operand.operand-index c.operand-item.result (omega arith)), tt)
