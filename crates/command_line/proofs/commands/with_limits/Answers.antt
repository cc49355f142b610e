-- one option after another
use Rattle.command_line.proofs.CommandLemmas.{five}
use Rattle.command_line.proofs.commands.with_limits.Goals as goal

pub returns : goal.returns
returns c = five _ _ _ _ _ _ c.in_ok-idle.ensures c.in_ok-head_time.ensures c.in_ok-reply_time.ensures c.in_ok-least_rate.ensures c.in_ok-grace.ensures
