-- what the desk answered and made
use Rattle.std.proofs.Common.{ap, ◌∙◌, subst, is_some, rules}
use Rattle.world_core.specs.Store.{StoreView, HasGrown, after_write, store_of}
use Rattle.world_core.proofs.StoreLemmas.{always, sound_on, wrote_as}
use Rattle.world_core.proofs.store.Store.write.Goals as goal

pub invariant_of-self : goal.invariant_of-self
invariant_of-self c = sound_on c.self.inside.desk.setting c.write_to.new.desk.setting c.self.inside.room c.self.inside.room c.write_to.ensures.grown.setting c.self.invariant.room c.self.invariant

pub invariant_of-self-2 : goal.invariant_of-self-2
invariant_of-self-2 c = sound_on c.self.inside.desk.setting c.write_to.new.desk.setting c.self.inside.room c.self.inside.room c.write_to.ensures.grown.setting c.self.invariant.room c.self.invariant

pub returns-in_err-written-clause-grown : goal.returns-in_err-written-clause-grown
returns-in_err-written-clause-grown c = subst (λ (s : StoreView). HasGrown s (store_of c.write_to.new.desk c.self.inside.moment)) c.self.view_is c.write_to.ensures.grown

pub returns-clause-grown : goal.returns-clause-grown
returns-clause-grown c = subst (λ (s : StoreView). HasGrown s (store_of c.write_to.new.desk c.self.inside.moment)) c.self.view_is c.write_to.ensures.grown

pub returns-clause-told : goal.returns-clause-told
returns-clause-told c =
    wrote_as c.write_reply.result c.is_some-is_put.result (is_some c.args.change.document) c.in_ok-written.written (store_of c.self.inside.desk c.self.inside.moment) c.args.self.now c.args.change c.args.condition
    c.write_reply.ensures c.in_ok-written.ensures.told c.self.view_is (search rules)

pub returns-clause-ok : goal.returns-clause-ok
returns-clause-ok c = always c.write_reply.result (c.in_ok-written.ensures.ok ∙ ap (λ (s : StoreView). after_write s c.args.change c.args.condition) c.self.view_is)
