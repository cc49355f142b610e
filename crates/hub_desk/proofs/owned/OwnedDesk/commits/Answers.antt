-- the hub is in the state of the history
use Rattle.std.proofs.Common.{subst, length, ◌≡◌, ◌∙◌}
use Rattle.hub_model.specs.Step.{state_of}
use Rattle.hub_desk.specs.Desk.{OwnedView}
use Rattle.hub_desk.proofs.owned.OwnedDesk.commits.Goals as goal

pub returns : goal.returns
returns c = subst (λ (o : OwnedView). c.commits.result ≡ length (state_of o.setting o.entries).journal) c.self.view_is (c.commits.ensures ∙ c.self.invariant.state.book.commits)
