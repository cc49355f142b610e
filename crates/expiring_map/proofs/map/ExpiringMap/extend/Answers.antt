use Rattle.std.proofs.Common.{arith}
use Rattle.expiring_map.proofs.HeldLemmas.{covered_extended}
use Rattle.expiring_map.proofs.map.ExpiringMap.extend.Goals as goal

pub invariant_of-self : goal.invariant_of-self
invariant_of-self g c = record {
  ordered = c.self.invariant.ordered;
  covered = covered_extended _ _ _ c.args.index c.args.until c.extend.ensures.entries c.self.invariant.covered;
  map_space = omega (arith, c.self.invariant.map_space, c.extend.ensures.spare);
  queue_space = omega (arith, c.self.invariant.queue_space, c.extend.ensures.len);
}
