use Rattle.std.proofs.Common.{arith, length, ap}
use Rattle.commit_book.specs.Journal.{cost_of}
use Rattle.commit_book.proofs.row.cost_of.Goals as goal

-- the length is that of the text
pub returns-clause-cost : goal.returns-clause-cost
unfolding cost_of
returns-clause-cost c = omega (arith, c.cost_with.ensures.cost, ap length c.requires)
