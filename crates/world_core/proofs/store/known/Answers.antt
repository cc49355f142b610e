-- the hub represents the history
use Rattle.std.proofs.Common.{length, ap, ◌∙◌, subst}
use Rattle.hub_model.specs.Legal.{IsLegal}
use Rattle.hub_model.specs.Setting.{Setting}
use Rattle.hub_model.specs.Step.{state_of}
use Rattle.world_core.proofs.store.known.Goals as goal

pub returns-clause-commits : goal.returns-clause-commits
returns-clause-commits c =
    c.commits.ensures ∙ c.hub.ensures.represents.state.book.commits
    ∙ ap (λ (g : Setting). length (state_of g c.args.desk.now.entries).journal) c.hub.ensures.setting

pub returns-clause-legal : goal.returns-clause-legal
returns-clause-legal c = subst (λ (g : Setting). IsLegal g c.args.desk.now.entries) c.hub.ensures.setting c.hub.ensures.represents.legal
