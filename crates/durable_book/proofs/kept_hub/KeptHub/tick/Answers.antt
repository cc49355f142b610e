-- the hub goes on, and the disk stays
use Rattle.std.proofs.Common.{refl, subst}
use Rattle.hub_model.specs.declared.entry.Entry.TheVariants.{Tick}
use Rattle.hub_model.specs.Reply.{counted}
use Rattle.durable_book.specs.Calls.{GoesBy, Tells}
use Rattle.durable_book.specs.KeptHub.{KeptView}
use Rattle.durable_book.proofs.KeptLemmas.{goes-tick}
use Rattle.durable_book.proofs.kept_hub.KeptHub.tick.Goals as goal

pub returns-else-self-clause-told : goal.returns-else-self-clause-told
returns-else-self-clause-told g c = subst (λ (k : KeptView). Tells k (Tick c.args.moment) (counted c.tick.result)) c.self.view_is c.tick.ensures.told

pub returns-else-self-clause-after : goal.returns-else-self-clause-after
returns-else-self-clause-after g c =
    let before : KeptView = record { hub = c.self.inside.hub; log = c.self.inside.log; kept = c.self.inside.kept; guard = c.self.inside.guard; broken = c.self.inside.broken } in
    let after : KeptView = record { hub = c.tick.new.self; log = c.self.inside.log; kept = c.self.inside.kept; guard = c.self.inside.guard; broken = c.self.inside.broken } in
    subst (λ (k : KeptView). GoesBy k after (Tick c.args.moment)) c.self.view_is (goes-tick before after c.args.moment c.tick.ensures.after refl refl refl)
