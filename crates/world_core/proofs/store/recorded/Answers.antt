-- the hub represents the history
use Rattle.std.proofs.Common.{length, ap, ◌∙◌}
use Rattle.hub_model.specs.Record.{record_of}
use Rattle.hub_model.specs.Setting.{Setting}
use Rattle.hub_model.specs.Step.{state_of}
use Rattle.world_core.proofs.store.recorded.Goals as goal

pub returns : goal.returns
returns c =
    c.record_count.ensures _ c.hub.ensures.represents.state
    ∙ ap (λ (g : Setting). length (record_of (state_of g c.args.desk.now.entries))) c.hub.ensures.setting
