-- the buffer has the page, which is within its limits
use Rattle.std.proofs.Common.{ap, ◌∙◌, subst}
use Rattle.std.proofs.lemmas.Result.{IfOk-weaker, on_ok_weaker}
use Rattle.std.proofs.Common.{sym, arith}
use Rattle.world_core.specs.Store.{StoreView, HasGrown, after_page, page_now, store_of}
use Rattle.world_core.proofs.StoreLemmas.{always, page_is, sound_on}
use Rattle.world_core.proofs.store.Store.page.Goals as goal

pub invariant_of-self : goal.invariant_of-self
invariant_of-self c = sound_on c.self.inside.desk.setting c.fetch_from.new.desk.setting c.self.inside.room c.fetch_from.new.room c.fetch_from.ensures.grown.setting c.fetch_from.ensures.room c.self.invariant

pub invariant_of-self-2 : goal.invariant_of-self-2
invariant_of-self-2 c = sound_on c.self.inside.desk.setting c.fetch_from.new.desk.setting c.self.inside.room c.fetch_from.new.room c.fetch_from.ensures.grown.setting c.fetch_from.ensures.room c.self.invariant

pub fetch_from-requires : goal.fetch_from-requires
fetch_from-requires c = c.self.invariant.room

pub returns-in_err-fetch_from-clause-grown : goal.returns-in_err-fetch_from-clause-grown
returns-in_err-fetch_from-clause-grown c = subst (λ (s : StoreView). HasGrown s (store_of c.fetch_from.new.desk c.self.inside.moment)) c.self.view_is c.fetch_from.ensures.grown

pub returns-clause-grown : goal.returns-clause-grown
returns-clause-grown c = subst (λ (s : StoreView). HasGrown s (store_of c.fetch_from.new.desk c.self.inside.moment)) c.self.view_is c.fetch_from.ensures.grown

pub returns-clause-told : goal.returns-clause-told
returns-clause-told c =
    let s = store_of c.self.inside.desk c.self.inside.moment in
    let few = c.known.ensures.few in
    let commits = c.known.ensures.commits in
    IfOk-weaker c.page_in.result _ _ (λ page e. e ∙ ap page_now c.self.view_is)
    (c.page_in.ensures (page_now s) c.in_ok-fetch_from.ensures.page
    (λ early. page_is c.front_is_within.ensures s c.self.invariant.within c.known.ensures.legal (omega (arith, few, commits)) early))

pub returns-clause-ok : goal.returns-clause-ok
returns-clause-ok c = always c.page_in.result (c.in_ok-fetch_from.ensures.ok ∙ ap after_page c.self.view_is)
