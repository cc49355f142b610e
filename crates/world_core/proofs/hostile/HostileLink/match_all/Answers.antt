-- the history of the store grew, and what was given stays issued
use Rattle.std.proofs.Common.{ap, ◌∙◌, subst}
use Rattle.std.proofs.lemmas.Result.{on_ok_weaker}
use Rattle.world_core.specs.Hostile.{HostileView}
use Rattle.world_core.specs.Link.{WorldLinkView}
use Rattle.world_core.specs.Store.{HasGrown, after_match}
use Rattle.world_core.proofs.HostileLemmas.{given_later}
use Rattle.world_core.proofs.hostile.HostileLink.match_all.Goals as goal

pub invariant_of-self : goal.invariant_of-self
invariant_of-self c = given_later c.longer_histories_are_later.ensures c.result_of_prefix.ensures c.self.inside.link.store c.match_all.new.self.store c.self.inside.given.items c.match_all.ensures.grown c.legal.ensures c.self.invariant

pub returns-clause-grown : goal.returns-clause-grown
returns-clause-grown c = subst (λ (v : HostileView). HasGrown v.link.store c.match_all.new.self.store) c.self.view_is c.match_all.ensures.grown

pub returns-clause-ok : goal.returns-clause-ok
returns-clause-ok c =
    let v : HostileView = record { link = c.self.inside.link; given = c.self.inside.given.items; moves = c.self.inside.moves.items } in
    on_ok_weaker c.match_all.result
    (λ e. ap (λ (l : WorldLinkView). record v { link = l }) e ∙ ap (λ (x : HostileView). record x { link = record x.link { store = after_match x.link.store } }) c.self.view_is)
    c.match_all.ensures.ok
