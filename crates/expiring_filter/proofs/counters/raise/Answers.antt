use Rattle.std.proofs.Common.{◌<◌, ℕ, List, get_or, length, ap, ◌∙◌, arith}
use Rattle.expiring_filter.proofs.CountLemmas.{times_at, raised_more}
use Rattle.expiring_filter.proofs.counters.raise.Goals as goal

-- the current position was counted once less than it is among all
pub raise_one-requires-clause-fits : goal.raise_one-requires-clause-fits
raise_one-requires-clause-fits c =
    let within = c.requires.within c.loop-position.position-index 0 c.loop-position-test.true in
    let counted = c.loop-position.invariant.counted (get_or c.args.positions.now c.loop-position.position-index 0) (omega (arith, within, c.loop-position.auto.counters)) in
    let at = times_at c.loop-position.position-index c.args.positions.now c.loop-position-test.true in
    let fits = c.requires.fits (get_or c.args.positions.now c.loop-position.position-index 0) in
    omega (arith, counted, at, fits)

-- one position more was counted
pub loop-position-preserved : goal.loop-position-preserved
loop-position-preserved c = record {
  counted = λ j low.
      let before : j < length c.loop-position.counters = omega (arith, low, c.raise_one.auto.counters) in
      ap (λ (xs : List ℕ). get_or xs j 0) c.raise_one.ensures.counted
      ∙ raised_more c.loop-position.counters c.args.positions.now _ c.loop-position.position-index j c.loop-position-test.true before (c.loop-position.invariant.counted j before);
  flat = c.raise_one.ensures.flat;
}
