-- the write is the next entry, behind the match that helped it, and it may always follow
use Rattle.std.proofs.Common.{ap, sym, refl}
use Rattle.hub_model.specs.declared.entry.Entry.TheVariants.{Write}
use Rattle.hub_desk.specs.Desk.{OwnedView}
use Rattle.hub_desk.proofs.HistoryLemmas.{represents-more, represents-still, made, written-stored}
use Rattle.hub_desk.proofs.SeatedLemmas.{accepted_again, on_err_all}
use Rattle.hub_desk.proofs.owned.OwnedDesk.write.Goals as goal

-- where memory ran out the hub represents the same history
pub invariant_of-self : goal.invariant_of-self
invariant_of-self c = represents-still _ _ c.self.invariant _ c.write.ensures.setting c.in_err-written.ensures.still

pub invariant_of-self-2 : goal.invariant_of-self-2
invariant_of-self-2 c =
    let after = c.in_ok-written.ensures.after _ c.self.invariant.state in
    represents-more _ _ c.self.invariant _ _ (Write c.args.moment c.args.change c.args.condition) c.calls_make_entries.ensures.represented tt c.write.ensures.setting after
    (written-stored _ _ c.self.invariant _ _ _ _ c.helps_are_told_by_the_front.ensures after _ _ c.front-front.ensures.same c.front.ensures.same _ _ c.note_match.ensures.stored c.note.ensures.stored)

pub returns-clause-made : goal.returns-clause-made
returns-clause-made c =
    let after = c.in_ok-written.ensures.after _ c.self.invariant.state in
    made c.self.inside.hub c.self.inside.entries.items c.self.invariant _ _ _ (sym (ap (λ (k : OwnedView). k.setting) c.self.view_is)) (sym (ap (λ (k : OwnedView). k.entries) c.self.view_is)) _ c.calls_make_entries.ensures.represented c.calls_make_entries.ensures.replies _ _ tt c.write.ensures.setting after
    (written-stored _ _ c.self.invariant _ _ _ _ c.helps_are_told_by_the_front.ensures after _ _ c.front-front.ensures.same c.front.ensures.same _ _ c.note_match.ensures.stored c.note.ensures.stored)
    (c.in_ok-written.ensures.told _ c.self.invariant.state)

-- what found no memory would be accepted
pub returns-in_err-written-clause-accepted : goal.returns-in_err-written-clause-accepted
returns-in_err-written-clause-accepted c =
    on_err_all c.from_residual.result _ (accepted_again _ _ _ _ c.args.change c.args.condition (ap (λ (k : OwnedView). k.setting) c.self.view_is) refl (c.in_err-written.ensures.accepted _ c.self.invariant.state))
