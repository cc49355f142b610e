-- the history of the store grew, and what was given stays issued
use Rattle.std.proofs.Common.{◌≡◌, ap, subst}
use Rattle.std.specs.Prelude.{IfOk}
use Rattle.world_core.specs.Hostile.{HostileView}
use Rattle.world_core.specs.Link.{IsRead}
use Rattle.world_core.specs.Store.{HasGrown}
use Rattle.world_core.proofs.HostileLemmas.{given_later}
use Rattle.world_core.proofs.hostile.HostileLink.ask.Goals as goal

pub invariant_of-self : goal.invariant_of-self
invariant_of-self c = given_later c.longer_histories_are_later.ensures c.result_of_prefix.ensures c.self.inside.link.store c.read.new.self.store c.self.inside.given.items c.read.ensures.grown c.legal.ensures c.self.invariant

pub returns-clause-ok : goal.returns-clause-ok
returns-clause-ok c = subst (λ (v : HostileView). IfOk c.read.result (λ reply. IsRead v.link c.read.new.self c.args.key.now c.args.no_cache reply)) c.self.view_is c.read.ensures.ok

pub returns-clause-grown : goal.returns-clause-grown
returns-clause-grown c = subst (λ (v : HostileView). HasGrown v.link.store c.read.new.self.store) c.self.view_is c.read.ensures.grown

pub returns-clause-last : goal.returns-clause-last
returns-clause-last c = subst (λ (v : HostileView). c.read.new.self.last ≡ v.link.last) c.self.view_is c.read.ensures.last

pub returns-clause-rest : goal.returns-clause-rest
returns-clause-rest c = ap (λ (v : HostileView). record v { link = c.read.new.self }) c.self.view_is
