use Rattle.std.proofs.Common.{ap, subst}
use Rattle.expiring_map.specs.Entries.{seconds_of}
use Rattle.expiring_map.specs.Map.{Expiring}
use Rattle.expiring_filter.specs.Filter.{Filter, Removes}
use Rattle.expiring_filter.proofs.FilterLemmas.{parted, enough, counted_without, removed, removed_none}
use Rattle.expiring_filter.proofs.filter.CountingFilter.remove.Goals as goal

-- the counts of the key are among the counts
pub uncount-requires-clause-enough : goal.uncount-requires-clause-enough
uncount-requires-clause-enough c = λ j low. enough c.self.invariant.counted c.args.key.now _ _ (parted _ _ _ _ c.in-Some.ensures.some) j low

pub invariant_of-self : goal.invariant_of-self
invariant_of-self c = record {
  counted =
      counted_without c.self.invariant.counted c.args.key.now _ _ (parted _ _ _ _ c.in-Some.ensures.some) _ _ (c.uncount.ensures.log2_bits, c.uncount.ensures.hashes)
      c.uncount.ensures.len c.uncount.ensures.counted c.uncount.ensures.flat;
}

-- the key was removed
pub returns-in-Some-clause-held : goal.returns-in-Some-clause-held
returns-in-Some-clause-held c =
    subst (λ (f : Filter). Removes c.args.key.now f.held (seconds_of c.remove.new.self.entries)) c.self.view_is (removed c.args.key.now _ _ _ c.in-Some.ensures.some)

-- there was no such key
pub returns-in-None-clause-held : goal.returns-in-None-clause-held
returns-in-None-clause-held c =
    subst (λ (f : Filter). Removes c.args.key.now f.held (seconds_of c.remove.new.self.entries)) c.self.view_is
    (removed_none c.args.key.now _ _ (ap (λ (m : Expiring (Unit {0})). m.entries) c.in-None.ensures.same) c.in-None.ensures.none)
