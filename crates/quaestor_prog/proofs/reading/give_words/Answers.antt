-- the first word was given whole, and then what came of the rest
use Rattle.std.proofs.Common.{◌++◌, codes}
use Rattle.quaestor_prog.proofs.ServingLemmas.{gave_rest}
use Rattle.quaestor_prog.proofs.reading.give_words.Goals as goal

pub returns-in-Ok : goal.returns-in-Ok
returns-in-Ok g c = gave_rest _ _ _ c.args.first.now (codes " " ++ c.args.second.now ++ codes "\n") c.give_line.result c.in-Ok.ensures c.give_line.ensures
