-- one option after another
use Rattle.command_line.proofs.CommandLemmas.{six}
use Rattle.command_line.proofs.commands.with_numbers.Goals as goal

pub returns : goal.returns
returns c = six _ _ _ _ _ _ _ c.in_ok-bits.ensures c.in_ok-hashes.ensures c.in_ok-low.ensures c.in_ok-high.ensures c.in_ok-active.ensures c.in_ok-bytes.ensures
