-- one option after another
use Rattle.command_line.proofs.CommandLemmas.{three}
use Rattle.command_line.proofs.commands.with_watching.Goals as goal

pub returns : goal.returns
returns c = three _ _ _ _ c.in_ok-metrics.ensures c.in_ok-log.ensures c.in_ok-json.ensures
