-- the invalidated keys are those of the record, each once
use Rattle.std.proofs.Common.{sym, ◌∙◌, subst}
use Rattle.hub_model.specs.Record.{record_of}
use Rattle.hub_model.proofs.Recorded.{length-permute}
use Rattle.hub_core.specs.CopiesView.{invalidated_keys}
use Rattle.hub_core.specs.HubState.{HubView, IsAt}
use Rattle.hub_core.proofs.HubLemmas.{invalidated-recorded, parts-at}
use Rattle.hub_core.proofs.hub.Hub.record_count.Goals as goal

pub returns : goal.returns
returns c = λ s at.
    c.invalidated_count.ensures.count
    ∙ length-permute (invalidated_keys c.self.inside.copies) (record_of s)
    (invalidated-recorded c.self.inside.book c.self.inside.front c.self.inside.copies c.self.inside.life s (parts-at c.self.inside.book c.self.inside.front c.self.inside.copies c.self.inside.queries.entries c.self.inside.life c.args.self.now s c.self.view_is at) c.invalidated_count.ensures.keys)
