-- the history stays
use Rattle.std.proofs.Common.{ap, ◌∙◌, nat_lt}
use Rattle.world_core.specs.Link.{WorldLinkView, evicted}
use Rattle.world_core.specs.World.{WorldView}
use Rattle.world_core.proofs.WorldLemmas.{held_evicted}
use Rattle.world_core.proofs.world.World.evict.Goals as goal

pub invariant_of-self : goal.invariant_of-self
invariant_of-self c = record {
  first = held_evicted _ c.self.inside.link c.evict.new.self c.self.inside.first.page c.evict.ensures c.self.invariant.first;
  second = held_evicted _ c.self.inside.link c.evict.new.self c.self.inside.second.page c.evict.ensures c.self.invariant.second;
  third = held_evicted _ c.self.inside.link c.evict.new.self c.self.inside.third.page c.evict.ensures c.self.invariant.third;
}

pub returns : goal.returns
returns c =
    let w : WorldView = record { link = c.self.inside.link; first = c.self.inside.first; second = c.self.inside.second; third = c.self.inside.third } in
    ap (λ (v : WorldLinkView). record w { link = v }) c.evict.ensures ∙ ap (λ (x : WorldView). record x { link = evicted (nat_lt 0 c.args.cache) x.link }) c.self.view_is
