use Rattle.std.proofs.Common.{arith}
use Rattle.http_message.proofs.BodyLemmas.{filling_more}
use Rattle.http_message.proofs.body.take_all.Goals as goal

pub loop-at-preserved : goal.loop-at-preserved
loop-at-preserved g c =
    filling_more _ _ _ c.loop-at.into c.take.new.into _ c.loop-at.at c.in-Ok.count _ c.loop-at.invariant
    (omega arith) c.in-Ok.ensures.took.1 (omega (arith, c.in-Ok.ensures.took.0))
