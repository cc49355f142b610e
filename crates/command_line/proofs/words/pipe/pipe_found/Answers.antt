-- the options with their hosts
use Rattle.command_line.proofs.CommandLemmas.{pipe_found}
use Rattle.command_line.proofs.words.pipe.pipe_found.Goals as goal

pub returns-in-Ok : goal.returns-in-Ok
returns-in-Ok c = pipe_found _ _ _ c.in-Ok.ensures.ok c.pipe_with.ensures

pub returns-in-Err : goal.returns-in-Err
returns-in-Err c = ((λ asked. c.in-Err.ensures.err asked.0 asked.1), c.in-Err.ensures.value)
