-- the options with their names
use Rattle.command_line.proofs.CommandLemmas.{serve_found}
use Rattle.command_line.proofs.words.serve.serve_found.Goals as goal

pub returns-in-Ok : goal.returns-in-Ok
returns-in-Ok c = serve_found _ _ _ c.in-Ok.ensures.ok c.serve_with.ensures
