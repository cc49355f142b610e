-- a write may always follow, behind the match that helped it, and both are counted
use Rattle.std.proofs.Common.{◌+◌, rules, ap, ◌∙◌}
use Rattle.hub_desk.proofs.HistoryLemmas.{written-counted}
use Rattle.hub_desk.proofs.SeatedLemmas.{on_err_all, stood, stays, added}
use Rattle.hub_desk.proofs.hub_value.HubValue.write.Goals as goal

pub returns-clause-made : goal.returns-clause-made
returns-clause-made c = λ history stands.
    let represented = (stood _ _ _ c.deref_mut.ensures.value c.self.view_is history stands).represents in
    let after = c.in_ok-written.ensures.after _ represented.state in
    let counted = written-counted _ _ represented _ _ _ _ c.helps_are_told_by_the_front.ensures after _ _ (search rules) (search rules) in
    added _ _ _ c.deref_mut.ensures.value c.self.view_is history stands _ _ _ c.calls_make_entries.ensures.represented c.calls_make_entries.ensures.replies tt c.write.ensures.setting after (ap (λ n. c.self.inside.count + n) (c.written_entries.ensures ∙ counted)) (c.in_ok-written.ensures.told _ represented.state)

-- where memory ran out the hub has come to the same state
pub returns-in_err-written-clause-memory : goal.returns-in_err-written-clause-memory
returns-in_err-written-clause-memory c = on_err_all c.from_residual.result _ (λ history stands. stays _ _ _ c.deref_mut.ensures.value c.self.view_is history stands _ c.write.ensures.setting c.in_err-written.ensures.still)
