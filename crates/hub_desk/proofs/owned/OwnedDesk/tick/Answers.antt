-- the tick is the next entry, and it may always follow
use Rattle.std.proofs.Common.{ap, sym}
use Rattle.hub_model.specs.declared.entry.Entry.TheVariants.{Tick}
use Rattle.hub_desk.specs.Desk.{OwnedView}
use Rattle.hub_desk.proofs.HistoryLemmas.{represents-more, made}
use Rattle.hub_desk.proofs.owned.OwnedDesk.tick.Goals as goal

pub invariant_of-self : goal.invariant_of-self
invariant_of-self c =
    represents-more _ _ c.self.invariant _ _ (Tick c.args.moment) c.calls_make_entries.ensures.represented tt c.tick-stats.ensures.setting (c.tick-stats.ensures.after _ c.self.invariant.state) c.note.ensures.stored

pub returns-clause-made : goal.returns-clause-made
returns-clause-made c =
    made c.self.inside.hub c.self.inside.entries.items c.self.invariant _ _ _ (sym (ap (λ (k : OwnedView). k.setting) c.self.view_is)) (sym (ap (λ (k : OwnedView). k.entries) c.self.view_is)) _ c.calls_make_entries.ensures.represented c.calls_make_entries.ensures.replies _ _ tt
    c.tick-stats.ensures.setting (c.tick-stats.ensures.after _ c.self.invariant.state) c.note.ensures.stored (c.tick-stats.ensures.told _ c.self.invariant.state)
