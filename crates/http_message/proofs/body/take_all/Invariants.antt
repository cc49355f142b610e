use Rattle.std.proofs.Common.{◌-◌, length}
use Rattle.http_message.proofs.BodyLemmas.{IsFilling}
use Rattle.http_message.proofs.body.take_all.Given as goal

abbrev pub invariant-loop-at : goal.invariant-loop-at
invariant-loop-at g l = IsFilling (g.S.Source.at l.fn.source) (g.S.Source.at l.source) l.into l.at (length l.initial.into)

abbrev pub decreases-loop-at : goal.decreases-loop-at
decreases-loop-at g l = length l.initial.into - l.at
