use Rattle.std.proofs.Common.{ℕ, List, IsTrue, sym, subst}
use Rattle.std.specs.List.{list_any}
use Rattle.query_normal.specs.Keys.{same_key}
use Rattle.query_normal.specs.declared.key.KeyShape.{KeyShape}
use Rattle.std.specs.declared.cmp.Reverse.{Reverse}
use Rattle.std.specs.BinaryHeap.{IsHeap}
use Rattle.expiring_map.specs.Due.{queue_cmp}
use Rattle.expiring_map.proofs.HeldLemmas.{covered_same}
use Rattle.expiring_map.proofs.KeyLemmas.{on-ok, own-reserved}
use Rattle.expiring_map.proofs.map.ExpiringMap.reserve.Goals as goal

-- the entries and the queue are as they were
pub invariant_of-self : goal.invariant_of-self
invariant_of-self g c = record {
  ordered = subst (λ (xs : List (Reverse (ℕ × ℕ))). IsHeap queue_cmp xs) (sym c.reserve_new.ensures.items) c.self.invariant.ordered;
  covered = covered_same _ _ _ _ c.reserve_new.ensures.entries c.reserve_new.ensures.items c.self.invariant.covered;
  map_space = c.reserve_new.ensures.map_space;
  queue_space = c.reserve_new.ensures.queue_space;
}

-- the key is reserved
pub returns-clause-ok : goal.returns-clause-ok
returns-clause-ok g c = on-ok c.reserve_new.result (λ more.
    subst (λ (k : KeyShape). IsTrue (list_any (same_key k) c.reserve_new.new.reserved)) (sym c.in_ok-owned.ensures.cases) (own-reserved c.in_ok-owned.owned c.self.inside.reserved c.reserve_new.new.reserved more)) c.reserve_new.ensures.ok
