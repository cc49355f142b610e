use Rattle.std.proofs.Common.{arith}
use Rattle.http_message.proofs.BodyLemmas.{filling_more}
use Rattle.client_wire.proofs.body.take_body.Goals as goal

pub loop-taken-preserved : goal.loop-taken-preserved
loop-taken-preserved g c =
    filling_more _ _ _ c.loop-taken.into c.take.new.into _ c.loop-taken.taken c.in-Ok.count _ c.loop-taken.invariant
    (omega arith) c.in-Ok.ensures.took.1 (omega (arith, c.in-Ok.ensures.took.0))
