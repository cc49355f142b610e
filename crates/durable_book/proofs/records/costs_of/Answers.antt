-- a record more
use Rattle.std.proofs.Common.{arith}
use Rattle.durable_book.proofs.LoopLemmas.{costs_on, costs_end}
use Rattle.durable_book.proofs.records.costs_of.Goals as goal

pub loop-said-preserved : goal.loop-said-preserved
loop-said-preserved c = record {
  so_far = costs_on c.args.records.now c.loop-said.said-index c.said-item.result c.loop-said.sum c.cost_of.result _ _ (omega arith) c.said-item.is c.cost_of.ensures c.saturating_add-sum.ensures c.loop-said.invariant.so_far;
  small = (let next = c.saturating_add-sum.ensures in omega (arith, next));
}

pub returns : goal.returns
returns c = costs_end c.args.records.now c.loop-said.said-index c.loop-said.sum _ (omega arith) c.loop-said.invariant.small c.loop-said.invariant.so_far
