-- the lifetimes are crossed
use Rattle.command_line.proofs.WordLemmas.{crossed}
use Rattle.command_line.proofs.words.setting.config_of.Goals as goal

pub returns-then-low-high-clause-err : goal.returns-then-low-high-clause-err
returns-then-low-high-clause-err c = λ g is. let low = c.in_ok-low.ensures.ok in let high = c.in_ok-high.ensures.ok in crossed _ g _ _ low.0 high.0 low.2 high.2 c.if-low-high.true is
