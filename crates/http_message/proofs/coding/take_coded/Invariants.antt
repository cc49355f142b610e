use Rattle.std.proofs.Common.{◌-◌}
use Rattle.std.specs.Prelude.{Ok}
use Rattle.http_message.specs.Coded.{IsCutShort}
use Rattle.http_message.specs.Input.{Reads}
use Rattle.http_message.specs.Limits.{coding_limit}
use Rattle.http_message.proofs.StepLemmas.{DecodesTo}
use Rattle.http_message.proofs.coding.take_coded.Given as goal

abbrev pub invariant-loop-next : goal.invariant-loop-next
invariant-loop-next g l =
    Reads (g.S.Source.at l.fn.source) (g.S.Source.at l.source) l.fn.input l.input (IsCutShort 0 0) (DecodesTo l.body) (Ok l.at)

abbrev pub decreases-loop-next : goal.decreases-loop-next
decreases-loop-next g l = coding_limit - l.at.coded
