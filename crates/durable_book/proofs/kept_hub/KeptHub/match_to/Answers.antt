-- the hub goes on, and the disk stays
use Rattle.std.proofs.Common.{refl, sym, ap, subst, ◌∙◌, arith}
use Rattle.hub_core.specs.HubState.{IsAsBefore}
use Rattle.hub_model.specs.declared.entry.Entry.TheVariants.{Match}
use Rattle.hub_model.specs.Reply.{matched}
use Rattle.durable_book.specs.Calls.{GoesBy, Tells}
use Rattle.durable_book.specs.KeptHub.{KeptView, RefusesDiskless}
use Rattle.durable_book.proofs.KeptLemmas.{at-exit, goes-match}
use Rattle.durable_book.proofs.kept_hub.KeptHub.match_to.Goals as goal

pub match_to-requires-clause-above : goal.match_to-requires-clause-above
match_to-requires-clause-above g c = (let front = ap (λ (k : KeptView). k.hub.front) c.self.view_is in omega (arith, front, c.requires.above))

pub match_to-requires-clause-within : goal.match_to-requires-clause-within
match_to-requires-clause-within g c = (let commits = ap (λ (k : KeptView). k.hub.commits) c.self.view_is in omega (arith, commits, c.requires.within))

pub returns-in_err-matched-clause-refused : goal.returns-in_err-matched-clause-refused
returns-in_err-matched-clause-refused g c =
    let before : KeptView = record { hub = c.self.inside.hub; log = c.self.inside.log; kept = c.self.inside.kept; guard = c.self.inside.guard; broken = c.self.inside.broken } in
    let after : KeptView = record { hub = c.match_to.new.self; log = c.self.inside.log; kept = c.self.inside.kept; guard = c.self.inside.guard; broken = c.self.inside.broken } in
    at-exit _ (RefusesDiskless c.args.self.now after) _ c.from_residual.ensures.1
    (ap (λ (k : KeptView). k.broken) (sym c.self.view_is) ∙ c.if-self.false, subst (λ (k : KeptView). IsAsBefore k.hub after.hub) c.self.view_is c.in_err-matched.ensures.memory)

pub returns-clause-told : goal.returns-clause-told
returns-clause-told g c = subst (λ (k : KeptView). Tells k (Match c.args.moment c.args.to) (matched c.in_ok-matched.matched)) c.self.view_is c.in_ok-matched.ensures.told

pub returns-clause-after : goal.returns-clause-after
returns-clause-after g c =
    let before : KeptView = record { hub = c.self.inside.hub; log = c.self.inside.log; kept = c.self.inside.kept; guard = c.self.inside.guard; broken = c.self.inside.broken } in
    let after : KeptView = record { hub = c.match_to.new.self; log = c.self.inside.log; kept = c.self.inside.kept; guard = c.self.inside.guard; broken = c.self.inside.broken } in
    subst (λ (k : KeptView). GoesBy k after (Match c.args.moment c.args.to)) c.self.view_is (goes-match before after c.args.moment c.args.to c.in_ok-matched.ensures.after refl refl refl)
