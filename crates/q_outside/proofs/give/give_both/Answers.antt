-- the first piece was given whole, and then what came of the second
use Rattle.q_outside.proofs.Given.{gave_behind}
use Rattle.q_outside.proofs.give.give_both.Goals as goal

pub returns-in-Ok : goal.returns-in-Ok
returns-in-Ok g c = gave_behind _ _ _ c.args.first.now c.args.second.now c.give_all-in-Ok.result c.in-Ok.ensures c.give_all-in-Ok.ensures
