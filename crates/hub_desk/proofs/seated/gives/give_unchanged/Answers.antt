-- the value has as many commits as the history that it stands for
use Rattle.std.proofs.Common.{ap, ◌∙◌}
use Rattle.hub_core.specs.HubState.{HubView}
use Rattle.hub_desk.specs.HubValue.{HubValueView}
use Rattle.hub_desk.proofs.SeatedLemmas.{counted}
use Rattle.hub_desk.proofs.seated.gives.give_unchanged.Goals as goal

pub returns-clause-commits : goal.returns-clause-commits
returns-clause-commits c =
    c.commits-commits.ensures ∙ ap (λ (h : HubView). h.commits) c.hub.ensures ∙ ap (λ (v : HubValueView). v.hub.commits) c.note_turn.ensures
    ∙ counted c.args.value _ _ c.requires.stands c.requires.setting
