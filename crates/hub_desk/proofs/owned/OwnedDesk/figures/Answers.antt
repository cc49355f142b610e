-- the hub is in the state of the history, which stays
use Rattle.std.proofs.Common.{subst}
use Rattle.hub_model.specs.Step.{state_of}
use Rattle.hub_desk.specs.Desk.{OwnedView}
use Rattle.hub_desk.specs.Figures.{AreFiguresOf}
use Rattle.hub_desk.proofs.owned.OwnedDesk.figures.Goals as goal

pub returns-clause-figures : goal.returns-clause-figures
returns-clause-figures c = subst (λ (o : OwnedView). AreFiguresOf o.setting (state_of o.setting o.entries) c.figures_of.result) c.self.view_is (c.figures_of.ensures _ c.self.invariant.state)
