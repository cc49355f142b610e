-- a drop may follow where it raises the horizon, and is not above the front
use Rattle.std.proofs.Common.{◌<◌, ◌≤◌, refl, rules, arith}
use Rattle.hub_desk.proofs.SeatedLemmas.{stood, added}
use Rattle.hub_desk.proofs.hub_value.HubValue.drop_to.Goals as goal

pub returns-clause-made : goal.returns-clause-made
returns-clause-made c = λ history stands.
    let state = (stood _ _ _ c.deref_mut.ensures.value c.self.view_is history stands).represents.state in
    let above : c.deref_mut.result.now.horizon < c.args.to = search rules in
    let within : c.args.to ≤ c.deref_mut.result.now.front = search rules in
    let horizon = state.book.horizon in
    let front = state.time.front in
    added _ _ _ c.deref_mut.ensures.value c.self.view_is history stands _ _ _ c.calls_make_entries.ensures.represented c.calls_make_entries.ensures.replies (omega (arith, horizon, above), omega (arith, front, within)) c.drop_to-dropped.ensures.setting (c.drop_to-dropped.ensures.after _ state) refl (c.drop_to-dropped.ensures.told _ state)
