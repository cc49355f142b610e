use Rattle.expiring_filter.proofs.FilterLemmas.{counter_fits, counted_with, seconds_put}
use Rattle.expiring_filter.proofs.filter.put.Goals as goal

pub count-requires-clause-fits : goal.count-requires-clause-fits
count-requires-clause-fits c = λ j. counter_fits c.requires.counted c.args.key.now j

-- a new key is last
pub returns-clause-held : goal.returns-clause-held
returns-clause-held c = seconds_put _ _ c.args.key.now c.args.until _ c.requires.absent c.put.ensures.entries

pub returns-clause-counted : goal.returns-clause-counted
returns-clause-counted c =
    counted_with _ _ _ _ _ _ c.args.key.now c.args.until _ _ _ _ (c.count.ensures.log2_bits, c.count.ensures.hashes) (seconds_put _ _ c.args.key.now c.args.until _ c.requires.absent c.put.ensures.entries)
    c.requires.absent c.requires.few c.requires.counted c.count.ensures.len c.count.ensures.counted c.count.ensures.flat
