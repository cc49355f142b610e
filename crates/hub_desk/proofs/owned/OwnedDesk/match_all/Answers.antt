-- the front was behind the last commit, or it was there
use Rattle.std.proofs.Common.{ap, sym}
use Rattle.hub_model.specs.declared.entry.Entry.TheVariants.{Match, Tick}
use Rattle.hub_desk.specs.Desk.{OwnedView}
use Rattle.hub_desk.proofs.HistoryLemmas.{represents-more, represents-still, may_match, matched_all, ticked_all}
use Rattle.hub_desk.proofs.owned.OwnedDesk.match_all.Goals as goal

-- where memory ran out the hub represents the same history
pub invariant_of-self : goal.invariant_of-self
invariant_of-self c = represents-still _ _ c.self.invariant _ c.match_to.ensures.setting c.in_err-matched.ensures.still

pub invariant_of-self-then-front-to : goal.invariant_of-self-then-front-to
invariant_of-self-then-front-to c =
    represents-more _ _ c.self.invariant _ _ (Match c.args.moment c.commits-to.result) c.calls_make_entries.ensures.represented (may_match _ _ c.self.invariant _ _ c.front.ensures.same c.commits-to.ensures c.if-front-to.true) c.match_to.ensures.setting
    (c.in_ok-matched.ensures.after _ c.self.invariant.state) c.note.ensures.stored

pub invariant_of-self-else-front-to : goal.invariant_of-self-else-front-to
invariant_of-self-else-front-to c =
    represents-more _ _ c.self.invariant _ _ (Tick c.args.moment) c.calls_make_entries.ensures.represented tt c.tick-stats.ensures.setting (c.tick-stats.ensures.after _ c.self.invariant.state) c.note-else-front-to.ensures.stored

pub returns-in_ok-matched-clause-made : goal.returns-in_ok-matched-clause-made
returns-in_ok-matched-clause-made c =
    matched_all c.self.inside.hub c.self.inside.entries.items c.self.invariant _ _ _ (sym (ap (λ (k : OwnedView). k.setting) c.self.view_is)) (sym (ap (λ (k : OwnedView). k.entries) c.self.view_is)) _ c.calls_make_entries.ensures.represented c.calls_make_entries.ensures.replies _ _ _ c.front.ensures.same c.commits-to.ensures _ c.if-front-to.true
    c.match_to.ensures.setting (c.in_ok-matched.ensures.after _ c.self.invariant.state) c.note.ensures.stored (c.in_ok-matched.ensures.told _ c.self.invariant.state)

pub returns-else-front-to-clause-made : goal.returns-else-front-to-clause-made
returns-else-front-to-clause-made c =
    ticked_all c.self.inside.hub c.self.inside.entries.items c.self.invariant _ _ _ (sym (ap (λ (k : OwnedView). k.setting) c.self.view_is)) (sym (ap (λ (k : OwnedView). k.entries) c.self.view_is)) _ c.calls_make_entries.ensures.represented c.calls_make_entries.ensures.replies _ _ _ c.front.ensures.same c.commits-to.ensures _ c.if-front-to.false
    c.tick-stats.ensures.setting (c.tick-stats.ensures.after _ c.self.invariant.state) c.note-else-front-to.ensures.stored (c.tick-stats.ensures.told _ c.self.invariant.state)
