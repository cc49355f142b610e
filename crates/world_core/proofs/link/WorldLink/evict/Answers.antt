-- what is left in a cache stays issued
use Rattle.std.proofs.Common.{Bool, true, false, ap, subst, sym, ◌∙◌}
use Rattle.cache_model.specs.Cache.{Held}
use Rattle.world_core.specs.Link.{WorldLinkView, HoldsIssued, evicted}
use Rattle.world_core.specs.Store.{state_in}
use Rattle.world_core.proofs.CacheLemmas.{last_holds}
use Rattle.world_core.proofs.link.WorldLink.evict.Goals as goal

pub invariant_of-self : goal.invariant_of-self
invariant_of-self c = record {
  first = c.self.invariant.first;
  second = subst (λ (k : Held). HoldsIssued (state_in c.self.inside.store) k) (sym c.drop_last.ensures.cache) (last_holds (state_in c.self.inside.store) c.self.inside.second c.self.invariant.second);
}

pub invariant_of-self-2 : goal.invariant_of-self-2
invariant_of-self-2 c = record {
  first = subst (λ (k : Held). HoldsIssued (state_in c.self.inside.store) k) (sym c.drop_last-2.ensures.cache) (last_holds (state_in c.self.inside.store) c.self.inside.first c.self.invariant.first);
  second = c.self.invariant.second;
}

pub returns-then-is_second : goal.returns-then-is_second
returns-then-is_second c =
    let v : WorldLinkView = record { store = c.self.inside.store; first = c.self.inside.first; second = c.self.inside.second; is_second = c.self.inside.is_second; purges = c.self.inside.purges; last = c.self.inside.last } in
    ap (λ (k : Held). record v { second = k }) c.drop_last.ensures.cache
    ∙ ap (λ (x : WorldLinkView). evicted true x) c.self.view_is
    ∙ ap (λ (b : Bool). evicted b c.args.self.now) (sym c.if-is_second.true)

pub returns : goal.returns
returns c =
    let v : WorldLinkView = record { store = c.self.inside.store; first = c.self.inside.first; second = c.self.inside.second; is_second = c.self.inside.is_second; purges = c.self.inside.purges; last = c.self.inside.last } in
    ap (λ (k : Held). record v { first = k }) c.drop_last-2.ensures.cache
    ∙ ap (λ (x : WorldLinkView). evicted false x) c.self.view_is
    ∙ ap (λ (b : Bool). evicted b c.args.self.now) (sym c.if-is_second.false)
