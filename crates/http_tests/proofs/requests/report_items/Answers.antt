use Rattle.std.proofs.Common.{arith}
use Rattle.http_tests.proofs.requests.report_items.Goals as goal

pub loop-turn-init : goal.loop-turn-init
loop-turn-init g c = omega (arith, c.clear.ensures.offset)

pub loop-turn-preserved : goal.loop-turn-preserved
loop-turn-preserved g c =
    let uses = c.in-Request.ensures.taken.0.uses in omega (arith, c.loop-turn.invariant, uses.offset, uses.limit)
