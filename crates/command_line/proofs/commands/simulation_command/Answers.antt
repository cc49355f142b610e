-- one word after the other
use Rattle.command_line.proofs.CommandLemmas.{simulation_is}
use Rattle.command_line.proofs.commands.simulation_command.Goals as goal

pub returns : goal.returns
returns c = simulation_is _ _ _ _ c.in_ok-bare.ensures c.in_ok-seed.ensures c.in_ok-steps.ensures
