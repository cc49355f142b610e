-- the first line was given whole, and then what came of the rest
use Rattle.std.proofs.Common.{◌++◌, codes}
use Rattle.quaestor_prog.specs.Reading.{line_of_read, shown_body}
use Rattle.quaestor_prog.proofs.ServingLemmas.{gave_rest}
use Rattle.quaestor_prog.proofs.reading.give_answer.Goals as goal

pub returns-in-Ok : goal.returns-in-Ok
returns-in-Ok g c = gave_rest _ _ _ (line_of_read c.args.out.now) (shown_body c.args.out.now.body ++ codes "\n") c.give_both.result c.in-Ok.ensures (rw c.shown_body.ensures at c.give_both.ensures)
