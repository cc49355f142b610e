-- the reply that was found leaves all as it was; without one the caches are asked
use Rattle.std.proofs.Common.{◌∙◌, sym}
use Rattle.std.proofs.lemmas.Result.{err_from_is_err_and}
use Rattle.world_core.specs.Hostile.{earlier}
use Rattle.world_core.proofs.HostileLemmas.{asked_instead, given_again, none_given}
use Rattle.world_core.proofs.StoreLemmas.{same_store}
use Rattle.world_core.proofs.hostile.HostileLink.told.Goals as goal

pub returns-in_err-found-clause-ok : goal.returns-in_err-found-clause-ok
returns-in_err-found-clause-ok c =
    let p = err_from_is_err_and c.from_residual.result c.from_residual.ensures.1 in
    rw p.1 (none_given (earlier c.args.back c.args.key.now c.args.self.now.given) c.args.self.now.link c.args.key.now c.args.no_cache p.0)

pub returns-in_err-found-clause-grown : goal.returns-in_err-found-clause-grown
returns-in_err-found-clause-grown c = same_store c.args.self.now.link.store

pub returns-in-Some-clause-ok : goal.returns-in-Some-clause-ok
returns-in-Some-clause-ok c =
    given_again _ (earlier c.args.back c.args.key.now c.args.self.now.given) c.args.self.now.link c.args.key.now c.args.no_cache c.in-Some.reply (sym c.in-Some.is ∙ c.in_ok-found.ensures.found)

pub returns-in-Some-clause-told : goal.returns-in-Some-clause-told
returns-in-Some-clause-told c = rw c.in-Some.is at c.in_ok-found.ensures.told

pub returns-in-Some-clause-grown : goal.returns-in-Some-clause-grown
returns-in-Some-clause-grown c = same_store c.args.self.now.link.store

pub returns-in-None-clause-ok : goal.returns-in-None-clause-ok
returns-in-None-clause-ok c =
    asked_instead (earlier c.args.back c.args.key.now c.args.self.now.given) c.args.self.now.link c.ask.new.self.link c.args.key.now c.args.no_cache c.ask.result
    (sym c.in-None.is ∙ c.in_ok-found.ensures.found) c.ask.ensures.ok
