-- there were changes to drop, or the horizon was there
use Rattle.std.proofs.Common.{ap, sym}
use Rattle.hub_model.specs.declared.entry.Entry.TheVariants.{Horizon, Tick}
use Rattle.hub_desk.specs.Desk.{OwnedView}
use Rattle.hub_desk.proofs.DropLemmas.{dropped_old, kept_old, may_drop}
use Rattle.hub_desk.proofs.HistoryLemmas.{represents-more}
use Rattle.hub_desk.proofs.owned.OwnedDesk.drop_old.Goals as goal

pub invariant_of-self : goal.invariant_of-self
invariant_of-self c =
    represents-more _ _ c.self.invariant _ _ (Horizon c.args.moment c.target_of-to.result) c.calls_make_entries.ensures.represented (may_drop _ _ c.self.invariant _ _ c.horizon-horizon.ensures.same c.if-horizon-to.true c.target_of-to.ensures.within) c.drop_to-dropped.ensures.setting
    (c.drop_to-dropped.ensures.after _ c.self.invariant.state) c.note.ensures.stored

pub invariant_of-self-else-horizon-to : goal.invariant_of-self-else-horizon-to
invariant_of-self-else-horizon-to c =
    represents-more _ _ c.self.invariant _ _ (Tick c.args.moment) c.calls_make_entries.ensures.represented tt c.tick-stats.ensures.setting (c.tick-stats.ensures.after _ c.self.invariant.state) c.note-else-horizon-to.ensures.stored

pub returns-then-horizon-to-clause-made : goal.returns-then-horizon-to-clause-made
returns-then-horizon-to-clause-made c =
    dropped_old c.self.inside.hub c.self.inside.entries.items c.self.invariant _ _ _ (sym (ap (λ (k : OwnedView). k.setting) c.self.view_is)) (sym (ap (λ (k : OwnedView). k.entries) c.self.view_is)) _ c.calls_make_entries.ensures.represented c.calls_make_entries.ensures.replies _ _ _ _ c.horizon-horizon.ensures.same
    (c.target_of-to.ensures.target _ c.self.invariant.state) _ c.if-horizon-to.true c.target_of-to.ensures.within
    c.drop_to-dropped.ensures.setting (c.drop_to-dropped.ensures.after _ c.self.invariant.state) c.note.ensures.stored (c.drop_to-dropped.ensures.told _ c.self.invariant.state)

pub returns-else-horizon-to-clause-made : goal.returns-else-horizon-to-clause-made
returns-else-horizon-to-clause-made c =
    kept_old c.self.inside.hub c.self.inside.entries.items c.self.invariant _ _ _ (sym (ap (λ (k : OwnedView). k.setting) c.self.view_is)) (sym (ap (λ (k : OwnedView). k.entries) c.self.view_is)) _ c.calls_make_entries.ensures.represented c.calls_make_entries.ensures.replies _ _ _ _ c.horizon-horizon.ensures.same
    (c.target_of-to.ensures.target _ c.self.invariant.state) _ c.if-horizon-to.false
    c.tick-stats.ensures.setting (c.tick-stats.ensures.after _ c.self.invariant.state) c.note-else-horizon-to.ensures.stored (c.tick-stats.ensures.told _ c.self.invariant.state)
