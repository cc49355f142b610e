-- a fetch may always follow
use Rattle.std.proofs.Common.{refl}
use Rattle.hub_desk.proofs.SeatedLemmas.{stood, added}
use Rattle.hub_desk.proofs.hub_value.HubValue.fetch.Goals as goal

pub returns-clause-made : goal.returns-clause-made
returns-clause-made c = λ history stands.
    let state = (stood _ _ _ c.deref_mut.ensures.value c.self.view_is history stands).represents.state in
    record {
      page = _;
      held = c.fetch.ensures.page _ state;
      added = added _ _ _ c.deref_mut.ensures.value c.self.view_is history stands _ _ _ c.calls_make_entries.ensures.represented c.calls_make_entries.ensures.replies tt c.fetch.ensures.setting (c.fetch.ensures.after _ state) refl refl;
    }
