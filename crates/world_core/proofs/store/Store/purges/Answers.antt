-- what the desk answered and made
use Rattle.std.proofs.Common.{ap, ◌∙◌, subst}
use Rattle.std.proofs.lemmas.Result.{IfOk-weaker, on_ok_weaker}
use Rattle.world_core.specs.Store.{StoreView, HasGrown, after_purges, purges_now, store_of}
use Rattle.world_core.proofs.StoreLemmas.{sound_on}
use Rattle.world_core.proofs.store.Store.purges.Goals as goal

pub invariant_of-self : goal.invariant_of-self
invariant_of-self c = sound_on c.self.inside.desk.setting c.purge_from.new.desk.setting c.self.inside.room c.self.inside.room c.purge_from.ensures.grown.setting c.self.invariant.room c.self.invariant

pub returns-clause-grown : goal.returns-clause-grown
returns-clause-grown c = subst (λ (s : StoreView). HasGrown s (store_of c.purge_from.new.desk c.self.inside.moment)) c.self.view_is c.purge_from.ensures.grown

pub returns-clause-told : goal.returns-clause-told
returns-clause-told c =
    IfOk-weaker c.purge_from.result _ _ (λ reply e. e ∙ ap (λ (s : StoreView). purges_now s c.args.from) c.self.view_is) c.purge_from.ensures.told

pub returns-clause-ok : goal.returns-clause-ok
returns-clause-ok c = on_ok_weaker c.purge_from.result (λ e. e ∙ ap (λ (s : StoreView). after_purges s c.args.from) c.self.view_is) c.purge_from.ensures.ok
