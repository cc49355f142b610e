-- a key is held where its second is later than the clock
use Rattle.std.proofs.Common.{ap, ◌∙◌}
use Rattle.hub_core.specs.CopiesView.{CopiesView, is_invalidated}
use Rattle.hub_core.proofs.InvalidationLemmas.{held-later}
use Rattle.hub_core.proofs.copies.Copies.is_invalidated.Goals as goal

pub returns : goal.returns
returns c =
    c.holds.ensures ∙ held-later c.self.inside.issued.clock c.self.inside.outdated.held c.args.key.now c.self.invariant.later
    ∙ ap (λ (h : CopiesView). is_invalidated h c.args.key.now) c.self.view_is
