-- the history stays
use Rattle.std.proofs.Common.{ap, ◌∙◌}
use Rattle.world_core.specs.Link.{WorldLinkView}
use Rattle.world_core.specs.Store.{advanced}
use Rattle.world_core.specs.World.{WorldView, with_store}
use Rattle.world_core.proofs.WorldLemmas.{held_advanced}
use Rattle.world_core.proofs.world.World.advance.Goals as goal

pub invariant_of-self : goal.invariant_of-self
invariant_of-self c = record {
  first = held_advanced c.args.seconds c.self.inside.link c.advance.new.self c.self.inside.first.page c.advance.ensures c.self.invariant.first;
  second = held_advanced c.args.seconds c.self.inside.link c.advance.new.self c.self.inside.second.page c.advance.ensures c.self.invariant.second;
  third = held_advanced c.args.seconds c.self.inside.link c.advance.new.self c.self.inside.third.page c.advance.ensures c.self.invariant.third;
}

pub returns : goal.returns
returns c =
    let w : WorldView = record { link = c.self.inside.link; first = c.self.inside.first; second = c.self.inside.second; third = c.self.inside.third } in
    ap (λ (v : WorldLinkView). record w { link = v }) c.advance.ensures ∙ ap (λ (x : WorldView). with_store x (advanced x.link.store c.args.seconds)) c.self.view_is
