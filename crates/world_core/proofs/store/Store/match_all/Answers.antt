-- what the desk made
use Rattle.std.proofs.Common.{ap, ◌∙◌, subst}
use Rattle.std.proofs.lemmas.Result.{IfOk-weaker, on_ok_weaker}
use Rattle.world_core.specs.Store.{StoreView, HasGrown, after_match, store_of}
use Rattle.world_core.proofs.StoreLemmas.{sound_on}
use Rattle.world_core.proofs.store.Store.match_all.Goals as goal

pub invariant_of-self : goal.invariant_of-self
invariant_of-self c = sound_on c.self.inside.desk.setting c.match_from.new.desk.setting c.self.inside.room c.self.inside.room c.match_from.ensures.grown.setting c.self.invariant.room c.self.invariant

pub returns-clause-grown : goal.returns-clause-grown
returns-clause-grown c = subst (λ (s : StoreView). HasGrown s (store_of c.match_from.new.desk c.self.inside.moment)) c.self.view_is c.match_from.ensures.grown

pub returns-clause-ok : goal.returns-clause-ok
returns-clause-ok c = on_ok_weaker c.match_from.result (λ e. e ∙ ap after_match c.self.view_is) c.match_from.ensures.ok
