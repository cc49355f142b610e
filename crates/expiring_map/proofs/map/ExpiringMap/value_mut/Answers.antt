use Rattle.std.proofs.Common.{refl, arith}
use Rattle.indexmap.proofs.CallerLemmas.{index_map_len-with_value_at}
use Rattle.expiring_map.specs.Entries.{with_value}
use Rattle.expiring_map.proofs.HeldLemmas.{covered_written, written_shown, value_there}
use Rattle.expiring_map.proofs.map.ExpiringMap.value_mut.Goals as goal

-- no second changes
pub invariant_of-self-lent : goal.invariant_of-self-lent
invariant_of-self-lent g c w = record {
  ordered = c.self.invariant.ordered;
  covered = covered_written _ _ c.args.index w c.index_mut.result.now c.index_mut.ensures.value c.self.invariant.covered;
  map_space = c.self.invariant.map_space;
  queue_space = omega (arith, c.self.invariant.queue_space, index_map_len-with_value_at c.self.inside.held c.args.index (with_value c.index_mut.result.now w));
}

pub returns : goal.returns
returns g c = (
  (refl, λ w. rw (← c.self.view_is) (written_shown _ c.args.index w c.index_mut.result.now _ c.index_mut.ensures.value)),
  record { writes_back = tt; value = rw (← c.self.view_is) (value_there _ c.args.index c.index_mut.result.now _ c.index_mut.ensures.value c.value_mut.ensures.value) },
)
