use Rattle.std.proofs.Common.{sym, ◌∙◌, subst}
use Rattle.expiring_map.specs.Entries.{seconds_of}
use Rattle.expiring_map.specs.Map.{Expiring}
use Rattle.expiring_filter.specs.Held.{Expires}
use Rattle.expiring_filter.proofs.FilterLemmas.{parted, enough, counted_without, lost_more, fewer, all_shown}
use Rattle.expiring_filter.proofs.filter.expire.Goals as goal

-- the counts of the key are among the counts
pub uncount-requires-clause-enough : goal.uncount-requires-clause-enough
uncount-requires-clause-enough c = λ j low. enough c.loop-key.invariant.counted c.in-Some.key _ _ (parted _ _ _ _ c.in-Some.ensures.some.removed) j low

pub loop-key-smaller : goal.loop-key-smaller
loop-key-smaller c = fewer c.args.moment c.in-Some.key _ _ _ c.in-Some.ensures.some

pub loop-key-preserved : goal.loop-key-preserved
loop-key-preserved c = record {
  counted =
      counted_without c.loop-key.invariant.counted c.in-Some.key _ _ (parted _ _ _ _ c.in-Some.ensures.some.removed) _ _ (c.uncount.ensures.log2_bits, c.uncount.ensures.hashes)
      c.uncount.ensures.len c.uncount.ensures.counted c.uncount.ensures.flat;
  lost = lost_more _ _ c.in-Some.key _ _ _ c.loop-key.invariant.lost c.in-Some.ensures.some;
  reserved = c.next_expired.ensures.reserved ∙ c.loop-key.invariant.reserved;
  log2_bits = c.uncount.ensures.log2_bits ∙ c.loop-key.invariant.log2_bits;
  hashes = c.uncount.ensures.hashes ∙ c.loop-key.invariant.hashes;
}

-- no key is left that leaves by then
pub returns-clause-expired : goal.returns-clause-expired
returns-clause-expired c =
    subst (λ (m : Expiring (Unit {0})). Expires c.args.moment (seconds_of c.args.keys.now.entries) (seconds_of m.entries)) (sym c.in_default.ensures.same) (record {
      lost = c.loop-key.invariant.lost;
      later = all_shown c.args.moment c.loop-key.keys.entries c.in_default.ensures.none;
    })
