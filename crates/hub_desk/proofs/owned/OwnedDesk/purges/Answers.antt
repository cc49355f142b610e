-- the list of purges is the next entry, and it may always follow
use Rattle.std.proofs.Common.{ap, sym}
use Rattle.hub_model.specs.declared.entry.Entry.TheVariants.{Purges}
use Rattle.hub_desk.specs.Desk.{OwnedView}
use Rattle.hub_desk.proofs.HistoryLemmas.{represents-more, made}
use Rattle.hub_desk.proofs.owned.OwnedDesk.purges.Goals as goal

pub invariant_of-self-2 : goal.invariant_of-self-2
invariant_of-self-2 c =
    represents-more _ _ c.self.invariant _ _ (Purges c.args.moment c.args.from) c.calls_make_entries.ensures.represented tt c.purges.ensures.setting (c.in_ok-reply.ensures.after _ c.self.invariant.state) c.note.ensures.stored

pub returns-clause-made : goal.returns-clause-made
returns-clause-made c =
    made c.self.inside.hub c.self.inside.entries.items c.self.invariant _ _ _ (sym (ap (λ (k : OwnedView). k.setting) c.self.view_is)) (sym (ap (λ (k : OwnedView). k.entries) c.self.view_is)) _ c.calls_make_entries.ensures.represented c.calls_make_entries.ensures.replies _ _ tt
    c.purges.ensures.setting (c.in_ok-reply.ensures.after _ c.self.invariant.state) c.note.ensures.stored (c.in_ok-reply.ensures.told _ c.self.invariant.state)
