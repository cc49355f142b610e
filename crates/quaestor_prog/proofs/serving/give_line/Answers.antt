-- both parts were given whole, and then what came of the line end
use Rattle.std.proofs.Common.{◌++◌, codes}
use Rattle.quaestor_prog.proofs.ServingLemmas.{gave_rest}
use Rattle.quaestor_prog.proofs.serving.give_line.Goals as goal

pub returns-in-Ok : goal.returns-in-Ok
returns-in-Ok g c = gave_rest _ _ _ (c.args.first.now ++ c.args.second.now) (codes "\n") c.give_all.result c.in-Ok.ensures c.give_all.ensures
