-- a list of purges may always follow
use Rattle.std.proofs.Common.{refl}
use Rattle.hub_desk.proofs.SeatedLemmas.{stood, added}
use Rattle.hub_desk.proofs.hub_value.HubValue.purges.Goals as goal

pub returns-clause-made : goal.returns-clause-made
returns-clause-made c = λ history stands.
    let state = (stood _ _ _ c.deref_mut.ensures.value c.self.view_is history stands).represents.state in
    added _ _ _ c.deref_mut.ensures.value c.self.view_is history stands _ _ _ c.calls_make_entries.ensures.represented c.calls_make_entries.ensures.replies tt c.purges.ensures.setting (c.in_ok-reply.ensures.after _ state) refl (c.in_ok-reply.ensures.told _ state)
