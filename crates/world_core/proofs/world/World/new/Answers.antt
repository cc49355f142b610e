-- the clients hold no page, and what the link says is said of its own store
use Rattle.std.proofs.Common.{◌≡◌, sym, ap, ◌∙◌, subst}
use Rattle.cache_model.specs.declared.manner.Manner.TheVariants.{Honest}
use Rattle.cache_model.specs.Cache.{Held, empty_cache}
use Rattle.client_core.specs.declared.level.Level.{Level}
use Rattle.client_session.specs.Session.{SessionView}
use Rattle.world_core.specs.Link.{WorldLinkView, IsStart, capacity, link_over}
use Rattle.world_core.specs.Store.{StoreView}
use Rattle.world_core.specs.World.{IsFresh}
use Rattle.world_core.proofs.WorldLemmas.{start_holds, start_own, start_store}
use Rattle.world_core.proofs.world.World.new.Goals as goal

-- a session that is taken out is as it was made
held : {l : Level} {s t : SessionView} → t ≡ s → IsFresh l s → IsFresh l t
held {l} e fresh = subst (λ (s : SessionView). IsFresh l s) (sym e) fresh

-- empty caches are as they were made
started : (store : StoreView) (link : WorldLinkView) (first second : Held) → link ≡ link_over store first second → first ≡ empty_cache capacity Honest → second ≡ empty_cache capacity Honest → IsStart store link
started store link first second e a b = e ∙ ap (λ (k : Held). link_over store k second) a ∙ ap (λ (k : Held). link_over store (empty_cache capacity Honest) k) b

pub invariant_of-result : goal.invariant_of-result
invariant_of-result c = record {
  first = start_holds c.in_ok-store.store c.new-link.result c.into_inner-first.result.page (started c.in_ok-store.store c.new-link.result _ _ c.new-link.ensures c.in_ok-through.ensures c.in_ok-behind.ensures) (held c.into_inner-first.ensures c.in_ok-first.ensures).page c.legal.ensures;
  second = start_holds c.in_ok-store.store c.new-link.result c.into_inner-second.result.page (started c.in_ok-store.store c.new-link.result _ _ c.new-link.ensures c.in_ok-through.ensures c.in_ok-behind.ensures) (held c.into_inner-second.ensures c.in_ok-second.ensures).page c.legal.ensures;
  third = start_holds c.in_ok-store.store c.new-link.result c.into_inner-third.result.page (started c.in_ok-store.store c.new-link.result _ _ c.new-link.ensures c.in_ok-through.ensures c.in_ok-behind.ensures) (held c.into_inner-third.ensures c.in_ok-third.ensures).page c.legal.ensures;
}

pub returns : goal.returns
returns c = record {
  store = start_store c.in_ok-store.store c.new-link.result (started c.in_ok-store.store c.new-link.result _ _ c.new-link.ensures c.in_ok-through.ensures c.in_ok-behind.ensures) c.in_ok-store.ensures;
  link = start_own c.in_ok-store.store c.new-link.result (started c.in_ok-store.store c.new-link.result _ _ c.new-link.ensures c.in_ok-through.ensures c.in_ok-behind.ensures);
  first = held c.into_inner-first.ensures c.in_ok-first.ensures;
  second = held c.into_inner-second.ensures c.in_ok-second.ensures;
  third = held c.into_inner-third.ensures c.in_ok-third.ensures;
}
