-- a read of the last commit may follow, as the front is not above it
use Rattle.std.proofs.Common.{refl}
use Rattle.hub_desk.proofs.HistoryLemmas.{may_read}
use Rattle.hub_desk.proofs.SeatedLemmas.{on_err_all, stood, stays, added}
use Rattle.hub_desk.proofs.hub_value.HubValue.read.Goals as goal

pub returns-clause-made : goal.returns-clause-made
returns-clause-made c = λ history stands.
    let represented = (stood _ _ _ c.deref_mut.ensures.value c.self.view_is history stands).represents in
    let may = may_read _ _ represented _ (c.front_is_within.ensures _ _ represented.legal) c.in_ok-answer.ensures.last in
    added _ _ _ c.deref_mut.ensures.value c.self.view_is history stands _ _ _ c.calls_make_entries.ensures.represented c.calls_make_entries.ensures.replies may c.read.ensures.setting (c.in_ok-answer.ensures.after _ represented.state) refl (c.in_ok-answer.ensures.told _ represented.state)

-- where memory ran out the hub has come to the same state
pub returns-in_err-answer-clause-memory : goal.returns-in_err-answer-clause-memory
returns-in_err-answer-clause-memory c = on_err_all c.from_residual.result _ (λ history stands. stays _ _ _ c.deref_mut.ensures.value c.self.view_is history stands _ c.read.ensures.setting c.in_err-answer.ensures.still)
