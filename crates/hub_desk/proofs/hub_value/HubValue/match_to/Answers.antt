-- a match may follow where it raises the front, and is not above the commits
use Rattle.std.proofs.Common.{◌<◌, ◌≤◌, refl, rules, arith}
use Rattle.hub_desk.proofs.SeatedLemmas.{on_err_all, stood, stays, added}
use Rattle.hub_desk.proofs.hub_value.HubValue.match_to.Goals as goal

pub returns-clause-made : goal.returns-clause-made
returns-clause-made c = λ history stands.
    let state = (stood _ _ _ c.deref_mut.ensures.value c.self.view_is history stands).represents.state in
    let above : c.deref_mut.result.now.front < c.args.to = search rules in
    let within : c.args.to ≤ c.deref_mut.result.now.commits = search rules in
    let front = state.time.front in
    let commits = state.book.commits in
    added _ _ _ c.deref_mut.ensures.value c.self.view_is history stands _ _ _ c.calls_make_entries.ensures.represented c.calls_make_entries.ensures.replies (omega (arith, front, above), omega (arith, commits, within)) c.match_to.ensures.setting (c.in_ok-matched.ensures.after _ state) refl (c.in_ok-matched.ensures.told _ state)

-- where memory ran out the hub has come to the same state
pub returns-in_err-matched-clause-memory : goal.returns-in_err-matched-clause-memory
returns-in_err-matched-clause-memory c = on_err_all c.from_residual.result _ (λ history stands. stays _ _ _ c.deref_mut.ensures.value c.self.view_is history stands _ c.match_to.ensures.setting c.in_err-matched.ensures.still)
