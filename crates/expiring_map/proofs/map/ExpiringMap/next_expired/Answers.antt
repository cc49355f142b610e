use Rattle.expiring_map.proofs.HeldLemmas.{expires_at}
use Rattle.expiring_map.proofs.map.ExpiringMap.next_expired.Goals as goal

-- the entry at the index leaves first
pub returns-in-Some-clause-some : goal.returns-in-Some-clause-some
returns-in-Some-clause-some g c =
    rw (← c.self.view_is)
    (expires_at c.args.moment _ c.in-Some.index _ _ _ c.seconds.ensures.same c.in-Some.ensures.within c.drop_at-key.ensures.entry c.in-Some.ensures.earliest c.drop_at-key.ensures.removes)
