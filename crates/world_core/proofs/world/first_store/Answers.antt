-- a store of no entry is filled
use Rattle.std.proofs.Common.{◌∙◌}
use Rattle.world_core.proofs.WorldLemmas.{filled_none}
use Rattle.world_core.proofs.world.first_store.Goals as goal

pub returns-in-Ok : goal.returns-in-Ok
returns-in-Ok c =
    c.in-Ok.ensures (filled_none c.no_entry_is_legal.ensures.state c.in_ok-store.store (c.in_ok-store.ensures.setting ∙ c.default.ensures) c.in_ok-store.ensures.empty (c.in_ok-store.ensures.moment ∙ c.of.ensures))
