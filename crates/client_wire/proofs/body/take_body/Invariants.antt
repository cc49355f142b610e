use Rattle.std.proofs.Common.{◌-◌, length}
use Rattle.http_message.proofs.BodyLemmas.{IsFilling}
use Rattle.client_wire.proofs.body.take_body.Given as goal

abbrev pub invariant-loop-taken : goal.invariant-loop-taken
invariant-loop-taken g l = IsFilling (g.S.Source.at l.fn.source) (g.S.Source.at l.source) l.into l.taken (length l.initial.into)

abbrev pub decreases-loop-taken : goal.decreases-loop-taken
decreases-loop-taken g l = length l.initial.into - l.taken
