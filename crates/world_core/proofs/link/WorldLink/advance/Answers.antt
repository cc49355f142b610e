-- the history stays, and so does what the caches hold
use Rattle.std.proofs.Common.{ap, subst, sym, ◌∙◌}
use Rattle.world_core.specs.Link.{WorldLinkView, HoldsIssued}
use Rattle.world_core.specs.Store.{StoreView, advanced, state_in}
use Rattle.world_core.proofs.link.WorldLink.advance.Goals as goal

pub invariant_of-self : goal.invariant_of-self
invariant_of-self c = record {
  first = subst (λ (s : StoreView). HoldsIssued (state_in s) c.self.inside.first) (sym c.advance.ensures) c.self.invariant.first;
  second = subst (λ (s : StoreView). HoldsIssued (state_in s) c.self.inside.second) (sym c.advance.ensures) c.self.invariant.second;
}

pub returns : goal.returns
returns c =
    let v : WorldLinkView = record { store = c.self.inside.store; first = c.self.inside.first; second = c.self.inside.second; is_second = c.self.inside.is_second; purges = c.self.inside.purges; last = c.self.inside.last } in
    ap (λ (s : StoreView). record v { store = s }) c.advance.ensures ∙ ap (λ (x : WorldLinkView). record x { store = advanced x.store c.args.seconds }) c.self.view_is
