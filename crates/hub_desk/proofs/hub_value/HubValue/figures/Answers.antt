-- the hub is in the state of the history that it represents
use Rattle.std.proofs.Common.{subst}
use Rattle.hub_core.specs.HubState.{HubView, IsAt}
use Rattle.hub_model.specs.State.{State}
use Rattle.hub_desk.specs.Figures.{AreFiguresOf}
use Rattle.hub_desk.proofs.hub_value.HubValue.figures.Goals as goal

pub returns-clause-figures : goal.returns-clause-figures
returns-clause-figures c = λ history stands.
    subst (λ (h : HubView). (s : State) → IsAt h s → AreFiguresOf h.setting s c.figures_of-figures.result) c.hub.ensures c.figures_of-figures.ensures _ stands.represents.state
