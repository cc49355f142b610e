use Rattle.std.proofs.Common.{arith, length, ap}
use Rattle.commit_book.proofs.row.names_cost.Goals as goal

-- the lengths are those of the names
pub returns-clause-cost : goal.returns-clause-cost
returns-clause-cost c = omega (arith, ap length c.as_slice.ensures.same, ap length c.as_slice-2.ensures.same)
