-- the history stays, and so does what was given
use Rattle.std.proofs.Common.{ap, ◌∙◌, subst, sym}
use Rattle.world_core.specs.Hostile.{HostileView}
use Rattle.world_core.specs.Link.{WorldLinkView, AreHeld, turned}
use Rattle.world_core.specs.Store.{state_in}
use Rattle.world_core.proofs.hostile.HostileLink.turn_to.Goals as goal

pub invariant_of-self : goal.invariant_of-self
invariant_of-self c = subst (λ (l : WorldLinkView). AreHeld (state_in l.store) c.self.inside.given.items) (sym c.turn_to.ensures) c.self.invariant

pub returns : goal.returns
returns c =
    let v : HostileView = record { link = c.self.inside.link; given = c.self.inside.given.items; moves = c.self.inside.moves.items } in
    ap (λ (l : WorldLinkView). record v { link = l }) c.turn_to.ensures ∙ ap (λ (x : HostileView). record x { link = turned c.args.client x.link }) c.self.view_is
