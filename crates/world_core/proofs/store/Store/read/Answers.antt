-- what the desk answered and made
use Rattle.std.proofs.Common.{ap, ◌∙◌, subst}
use Rattle.std.proofs.lemmas.Result.{IfOk-weaker, on_ok_weaker}
use Rattle.world_core.specs.Replies.{read_reply}
use Rattle.world_core.specs.Store.{StoreView, HasGrown, answer_to, store_of, with_read}
use Rattle.world_core.proofs.StoreLemmas.{always, sound_on}
use Rattle.world_core.proofs.store.Store.read.Goals as goal

pub invariant_of-self : goal.invariant_of-self
invariant_of-self c = sound_on c.self.inside.desk.setting c.read_from.new.desk.setting c.self.inside.room c.self.inside.room c.read_from.ensures.grown.setting c.self.invariant.room c.self.invariant

pub invariant_of-self-2 : goal.invariant_of-self-2
invariant_of-self-2 c = sound_on c.self.inside.desk.setting c.read_from.new.desk.setting c.self.inside.room c.self.inside.room c.read_from.ensures.grown.setting c.self.invariant.room c.self.invariant

pub returns-in_err-answer-clause-grown : goal.returns-in_err-answer-clause-grown
returns-in_err-answer-clause-grown c = subst (λ (s : StoreView). HasGrown s (store_of c.read_from.new.desk c.self.inside.moment)) c.self.view_is c.read_from.ensures.grown

pub returns-clause-grown : goal.returns-clause-grown
returns-clause-grown c = subst (λ (s : StoreView). HasGrown s (store_of c.read_from.new.desk c.self.inside.moment)) c.self.view_is c.read_from.ensures.grown

pub returns-clause-told : goal.returns-clause-told
returns-clause-told c =
    IfOk-weaker c.read_reply.result _ _
    (λ reply e. e ∙ ap read_reply (c.in_ok-answer.ensures.told ∙ ap (λ (s : StoreView). answer_to s c.args.key.now c.args.tag) c.self.view_is)) c.read_reply.ensures

pub returns-clause-ok : goal.returns-clause-ok
returns-clause-ok c = always c.read_reply.result (c.in_ok-answer.ensures.ok ∙ ap (λ (s : StoreView). with_read s c.args.key.now c.args.tag) c.self.view_is)
