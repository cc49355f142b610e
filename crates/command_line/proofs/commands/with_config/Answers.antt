-- the numbers, and then one option after another
use Rattle.command_line.proofs.CommandLemmas.{nine}
use Rattle.command_line.proofs.commands.with_config.Goals as goal

pub returns : goal.returns
returns c = nine _ _ _ _ _ c.in_ok-numbers.ensures c.in_ok-absent.ensures c.in_ok-shared.ensures c.in_ok-hosts.ensures
