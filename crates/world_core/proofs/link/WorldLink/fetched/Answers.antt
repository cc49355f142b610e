-- the store gains the fetch, and what the caches hold stays issued
use Rattle.std.proofs.Common.{ap, sym, ◌∙◌, subst}
use Rattle.std.specs.Prelude.{IfOk}
use Rattle.std.proofs.lemmas.Result.{IfOk-weaker, on_ok_weaker}
use Rattle.world_core.specs.Link.{WorldLinkView, IsPageAnswer, IsRead, IsWrite, linked}
use Rattle.world_core.specs.Store.{StoreView, HasGrown, after_match}
use Rattle.world_core.proofs.LinkLemmas.{linked_memory, page_fetched, sound_later}
use Rattle.world_core.proofs.link.WorldLink.fetched.Goals as goal

pub invariant_of-self : goal.invariant_of-self
invariant_of-self c = sound_later c.longer_histories_are_later.ensures c.result_of_prefix.ensures (record { store = c.self.inside.store; first = c.self.inside.first; second = c.self.inside.second; is_second = c.self.inside.is_second; purges = c.self.inside.purges; last = c.self.inside.last }) c.page.new.self c.page.ensures.grown c.legal.ensures c.self.invariant

pub returns-clause-grown : goal.returns-clause-grown
returns-clause-grown c = subst (λ (v : WorldLinkView). HasGrown v.store c.page.new.self) c.self.view_is c.page.ensures.grown

pub returns-clause-answered : goal.returns-clause-answered
returns-clause-answered c =
    let v : WorldLinkView = record { store = c.self.inside.store; first = c.self.inside.first; second = c.self.inside.second; is_second = c.self.inside.is_second; purges = c.self.inside.purges; last = c.self.inside.last } in
    subst (λ (x : WorldLinkView). IsPageAnswer x (record v { store = c.page.new.self }) c.page_linked.result) c.self.view_is
    (subst (λ told. IsPageAnswer v (record v { store = c.page.new.self }) told) (sym c.page_linked.ensures) (page_fetched v c.page.new.self c.page.result c.page.ensures.told c.page.ensures.ok))

pub returns-clause-refused : goal.returns-clause-refused
returns-clause-refused c = rw c.page_linked.ensures (linked_memory c.page.result)
