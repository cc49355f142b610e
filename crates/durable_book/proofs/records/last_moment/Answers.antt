-- a record more
use Rattle.std.proofs.Common.{arith}
use Rattle.durable_book.proofs.LoopLemmas.{moment_on, moment_end}
use Rattle.durable_book.proofs.records.last_moment.Goals as goal

pub loop-said-preserved : goal.loop-said-preserved
loop-said-preserved c =
    moment_on c.args.records.now c.loop-said.said-index c.said-item.result c.loop-said.last c.moment_behind-last.result _ (omega arith) c.said-item.is c.moment_behind-last.ensures c.loop-said.invariant

pub returns : goal.returns
returns c = moment_end c.args.records.now c.loop-said.said-index c.loop-said.last _ (omega arith) c.loop-said.invariant
