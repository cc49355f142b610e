-- the fetch is the next entry, and it may always follow
use Rattle.std.proofs.Common.{ap, sym}
use Rattle.hub_model.specs.declared.entry.Entry.TheVariants.{Fetch}
use Rattle.hub_desk.specs.Desk.{OwnedView}
use Rattle.hub_desk.proofs.HistoryLemmas.{represents-more, fetched_page}
use Rattle.hub_desk.proofs.owned.OwnedDesk.fetch.Goals as goal

pub invariant_of-self : goal.invariant_of-self
invariant_of-self c =
    represents-more _ _ c.self.invariant _ _ (Fetch c.args.moment) c.calls_make_entries.ensures.represented tt c.fetch.ensures.setting (c.fetch.ensures.after _ c.self.invariant.state) c.note.ensures.stored

pub returns-clause-made : goal.returns-clause-made
returns-clause-made c =
    fetched_page c.self.inside.hub c.self.inside.entries.items c.self.invariant _ _ _ (sym (ap (λ (k : OwnedView). k.setting) c.self.view_is)) (sym (ap (λ (k : OwnedView). k.entries) c.self.view_is)) _ c.calls_make_entries.ensures.represented c.calls_make_entries.ensures.replies _ _
    c.fetch.ensures.setting (c.fetch.ensures.after _ c.self.invariant.state) c.note.ensures.stored (c.fetch.ensures.page _ c.self.invariant.state)
