-- the history of the store grew, and what was given stays issued
use Rattle.std.proofs.Common.{◌≡◌, ap, subst}
use Rattle.world_core.specs.Hostile.{HostileView}
use Rattle.world_core.specs.Link.{IsAnswer, IsAnswerOf}
use Rattle.world_core.specs.Store.{HasGrown}
use Rattle.world_core.proofs.HostileLemmas.{given_later}
use Rattle.world_core.proofs.hostile.HostileLink.pass.Goals as goal

pub invariant_of-self : goal.invariant_of-self
invariant_of-self c = given_later c.longer_histories_are_later.ensures c.result_of_prefix.ensures c.self.inside.link.store c.answer.new.self.store c.self.inside.given.items c.answer.ensures.grown c.legal.ensures c.self.invariant

pub returns-clause-answer : goal.returns-clause-answer
returns-clause-answer c = subst (λ (v : HostileView). IsAnswer v.link c.answer.new.self c.args.ask.now c.answer.result) c.self.view_is c.answer.ensures.answer

pub returns-clause-told : goal.returns-clause-told
returns-clause-told c = subst (λ (v : HostileView). IsAnswerOf v.link.store c.answer.new.self.store c.args.ask.now c.answer.result) c.self.view_is c.answer.ensures.told

pub returns-clause-grown : goal.returns-clause-grown
returns-clause-grown c = subst (λ (v : HostileView). HasGrown v.link.store c.answer.new.self.store) c.self.view_is c.answer.ensures.grown

pub returns-clause-last : goal.returns-clause-last
returns-clause-last c = subst (λ (v : HostileView). c.answer.new.self.last ≡ v.link.last) c.self.view_is c.answer.ensures.last

pub returns-clause-rest : goal.returns-clause-rest
returns-clause-rest c = ap (λ (v : HostileView). record v { link = c.answer.new.self }) c.self.view_is
