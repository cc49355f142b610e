-- the store gains the match, and what the caches hold stays issued
use Rattle.std.proofs.Common.{ap, sym, ◌∙◌, subst}
use Rattle.std.specs.Prelude.{IfOk}
use Rattle.std.proofs.lemmas.Result.{IfOk-weaker, on_ok_weaker}
use Rattle.world_core.specs.Link.{WorldLinkView, IsPageAnswer, IsRead, IsWrite, linked}
use Rattle.world_core.specs.Store.{StoreView, HasGrown, after_match}
use Rattle.world_core.proofs.LinkLemmas.{sound_later}
use Rattle.world_core.proofs.link.WorldLink.match_all.Goals as goal

pub invariant_of-self : goal.invariant_of-self
invariant_of-self c = sound_later c.longer_histories_are_later.ensures c.result_of_prefix.ensures (record { store = c.self.inside.store; first = c.self.inside.first; second = c.self.inside.second; is_second = c.self.inside.is_second; purges = c.self.inside.purges; last = c.self.inside.last }) c.match_all.new.self c.match_all.ensures.grown c.legal.ensures c.self.invariant

pub returns-clause-grown : goal.returns-clause-grown
returns-clause-grown c = subst (λ (v : WorldLinkView). HasGrown v.store c.match_all.new.self) c.self.view_is c.match_all.ensures.grown

pub returns-clause-ok : goal.returns-clause-ok
returns-clause-ok c =
    let v : WorldLinkView = record { store = c.self.inside.store; first = c.self.inside.first; second = c.self.inside.second; is_second = c.self.inside.is_second; purges = c.self.inside.purges; last = c.self.inside.last } in
    on_ok_weaker c.match_all.result (λ e. ap (λ (s : StoreView). record v { store = s }) e ∙ ap (λ (x : WorldLinkView). record x { store = after_match x.store }) c.self.view_is) c.match_all.ensures.ok
