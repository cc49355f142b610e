-- the bytes that were given now come behind those before
use Rattle.std.proofs.Common.{◌≤◌, length, drop, arith, length-drop}
use Rattle.std.proofs.lemmas.List.{take_rest}
use Rattle.q_outside.proofs.Given.{given_more}
use Rattle.q_outside.proofs.give.give_all.Goals as goal

pub loop-at-preserved : goal.loop-at-preserved
loop-at-preserved g c =
    let within : c.in-Ok.count ≤ length (drop c.loop-at.at c.args.bytes.now) = rw take_rest at c.in-Ok.ensures.gave.1 in
    let size = length-drop c.loop-at.at c.args.bytes.now in
    record {
      within = omega (arith, within, size, c.loop-at-test.true);
      given = given_more _ _ _ c.args.bytes.now c.loop-at.at c.in-Ok.count c.loop-at.invariant.given (rw take_rest at c.in-Ok.ensures.gave.2);
    }
