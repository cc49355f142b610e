-- the options of a configuration, then the clock, and then those of a file
use Rattle.command_line.proofs.CommandLemmas.{pipe_is}
use Rattle.command_line.proofs.commands.pipe_command.Goals as goal

pub returns : goal.returns
returns c = pipe_is _ _ _ _ c.in_ok-bare.ensures c.in_ok-config.ensures c.in_ok-clock.ensures c.in_ok-store.ensures
