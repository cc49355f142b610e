-- the read is of the last commit, so it may follow
use Rattle.std.proofs.Common.{ap, sym}
use Rattle.hub_model.specs.declared.entry.Entry.TheVariants.{Read}
use Rattle.hub_desk.specs.Desk.{OwnedView}
use Rattle.hub_desk.proofs.HistoryLemmas.{represents-more, represents-still, made, may_read}
use Rattle.hub_desk.proofs.owned.OwnedDesk.read.Goals as goal

-- where memory ran out the hub represents the same history
pub invariant_of-self : goal.invariant_of-self
invariant_of-self c = represents-still _ _ c.self.invariant _ c.read.ensures.setting c.in_err-answer.ensures.still

pub invariant_of-self-2 : goal.invariant_of-self-2
invariant_of-self-2 c =
    represents-more _ _ c.self.invariant _ _ (Read c.args.moment c.args.key c.args.tags c.in_ok-answer.answer.commit) c.calls_make_entries.ensures.represented (may_read _ _ c.self.invariant _ (c.front_is_within.ensures _ _ c.self.invariant.legal) c.in_ok-answer.ensures.last) c.read.ensures.setting
    (c.in_ok-answer.ensures.after _ c.self.invariant.state) c.note.ensures.stored

pub returns-clause-made : goal.returns-clause-made
returns-clause-made c =
    made c.self.inside.hub c.self.inside.entries.items c.self.invariant _ _ _ (sym (ap (λ (k : OwnedView). k.setting) c.self.view_is)) (sym (ap (λ (k : OwnedView). k.entries) c.self.view_is)) _ c.calls_make_entries.ensures.represented c.calls_make_entries.ensures.replies _ _
    (may_read _ _ c.self.invariant _ (c.front_is_within.ensures _ _ c.self.invariant.legal) c.in_ok-answer.ensures.last) c.read.ensures.setting
    (c.in_ok-answer.ensures.after _ c.self.invariant.state) c.note.ensures.stored (c.in_ok-answer.ensures.told _ c.self.invariant.state)
