-- a key is invalidated where it is in the record
use Rattle.std.proofs.Common.{nat_lt, ap, ◌∙◌}
use Rattle.hub_core.specs.CopiesView.{until_in}
use Rattle.hub_core.specs.HubState.{HubView}
use Rattle.hub_core.proofs.HubLemmas.{recorded-at}
use Rattle.hub_core.proofs.hub.Hub.holds.Goals as goal

pub returns : goal.returns
returns c = λ s at.
    c.is_invalidated.ensures
    ∙ ap (λ (h : HubView). nat_lt h.clock (until_in h.outdated c.args.key.now)) c.self.view_is
    ∙ recorded-at c.args.self.now s c.args.key.now at
