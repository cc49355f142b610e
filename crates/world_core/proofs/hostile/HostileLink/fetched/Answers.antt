-- the history of the store grew, and what was given stays issued
use Rattle.std.proofs.Common.{◌≡◌, ap, subst}
use Rattle.world_core.specs.Hostile.{HostileView}
use Rattle.world_core.specs.Link.{IsPageAnswer}
use Rattle.world_core.specs.Store.{HasGrown}
use Rattle.world_core.proofs.HostileLemmas.{given_later}
use Rattle.world_core.proofs.hostile.HostileLink.fetched.Goals as goal

pub invariant_of-self : goal.invariant_of-self
invariant_of-self c = given_later c.longer_histories_are_later.ensures c.result_of_prefix.ensures c.self.inside.link.store c.fetched.new.self.store c.self.inside.given.items c.fetched.ensures.grown c.legal.ensures c.self.invariant

pub returns-clause-answered : goal.returns-clause-answered
returns-clause-answered c = subst (λ (v : HostileView). IsPageAnswer v.link c.fetched.new.self c.fetched.result) c.self.view_is c.fetched.ensures.answered

pub returns-clause-grown : goal.returns-clause-grown
returns-clause-grown c = subst (λ (v : HostileView). HasGrown v.link.store c.fetched.new.self.store) c.self.view_is c.fetched.ensures.grown

pub returns-clause-last : goal.returns-clause-last
returns-clause-last c = subst (λ (v : HostileView). c.fetched.new.self.last ≡ v.link.last) c.self.view_is c.fetched.ensures.last

pub returns-clause-rest : goal.returns-clause-rest
returns-clause-rest c = ap (λ (v : HostileView). record v { link = c.fetched.new.self }) c.self.view_is
