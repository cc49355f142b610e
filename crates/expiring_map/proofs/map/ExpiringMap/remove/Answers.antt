use Rattle.expiring_map.proofs.HeldLemmas.{own_entry, removes_own}
use Rattle.expiring_map.proofs.map.ExpiringMap.remove.Goals as goal

pub returns-in-Some-clause-some : goal.returns-in-Some-clause-some
returns-in-Some-clause-some g c =
    rw (← c.self.view_is)
    (removes_own c.args.key.now _ _ _ _ (own_entry c.args.key.now _ c.in-Some.index _ c.in-Some.ensures.index c.in-Some.ensures.within c.drop_at.ensures.entry) c.drop_at.ensures.removes)
