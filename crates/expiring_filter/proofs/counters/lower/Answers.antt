use Rattle.std.proofs.Common.{◌+◌, ◌<◌, ℕ, List, get_or, take, length, ap, ◌∙◌, arith}
use Rattle.expiring_filter.specs.Counts.{times}
use Rattle.expiring_filter.proofs.CountLemmas.{times_at, lowered_more}
use Rattle.expiring_filter.proofs.counters.lower.Goals as goal

-- the current position was lowered once less than it is among all
pub lower_one-requires-clause-some : goal.lower_one-requires-clause-some
lower_one-requires-clause-some c =
    let within = c.requires.within c.loop-position.position-index 0 c.loop-position-test.true in
    let counted = c.loop-position.invariant.counted (get_or c.args.positions.now c.loop-position.position-index 0) (omega (arith, within, c.loop-position.auto.counters)) in
    let at = times_at c.loop-position.position-index c.args.positions.now c.loop-position-test.true in
    let enough = c.requires.enough (get_or c.args.positions.now c.loop-position.position-index 0) within in
    omega (arith, counted, at, enough)

-- one position more was taken back
pub loop-position-preserved : goal.loop-position-preserved
loop-position-preserved c =
    let within = c.requires.within c.loop-position.position-index 0 c.loop-position-test.true in
    let counted = c.loop-position.invariant.counted (get_or c.args.positions.now c.loop-position.position-index 0) (omega (arith, within, c.loop-position.auto.counters)) in
    let at = times_at c.loop-position.position-index c.args.positions.now c.loop-position-test.true in
    let enough = c.requires.enough (get_or c.args.positions.now c.loop-position.position-index 0) within in
    let some : 0 < get_or c.loop-position.counters (get_or c.args.positions.now c.loop-position.position-index 0) 0 = omega (arith, counted, at, enough) in
    record {
      counted = λ j low.
          let before : j < length c.loop-position.counters = omega (arith, low, c.lower_one.auto.counters) in
          ap (λ (xs : List ℕ). get_or xs j 0 + times j (take (c.loop-position.position-index + 1) c.args.positions.now)) c.lower_one.ensures.counted
          ∙ lowered_more c.loop-position.counters c.args.positions.now _ c.loop-position.position-index j c.loop-position-test.true before some (c.loop-position.invariant.counted j before);
      flat = c.lower_one.ensures.flat;
    }
