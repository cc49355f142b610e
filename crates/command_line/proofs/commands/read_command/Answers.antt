-- one word after another
use Rattle.command_line.proofs.CommandLemmas.{read_is}
use Rattle.command_line.proofs.commands.read_command.Goals as goal

pub returns : goal.returns
returns c = read_is _ _ _ _ c.in_ok-bare.ensures c.in_ok-address.ensures c.in_ok-level.ensures c.in_ok-key.ensures
