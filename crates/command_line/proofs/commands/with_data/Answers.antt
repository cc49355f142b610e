-- one option after the other
use Rattle.command_line.proofs.CommandLemmas.{two}
use Rattle.command_line.proofs.commands.with_data.Goals as goal

pub returns : goal.returns
returns c = two _ _ _ c.in_ok-store.ensures c.in_ok-sync.ensures
