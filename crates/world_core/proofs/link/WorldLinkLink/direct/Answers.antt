use Rattle.std.proofs.Common.{◌≡◌, sym, ap, ◌∙◌, subst}
use Rattle.client_session.specs.declared.last.LastReplies.{LastReplies}
use Rattle.client_session.specs.Link.{direct, last_after}
use Rattle.world_core.specs.Link.{WorldLinkView, IsAnswer}
use Rattle.world_core.proofs.LinkLemmas.{direct_went}
use Rattle.world_core.proofs.link.WorldLinkLink.direct.Goals as goal

-- what the call made of the store and the caches, whatever is then kept
pub returns-clause-answered : goal.returns-clause-answered
returns-clause-answered c =
    let m = c.answer-told.new.self in
    let is : m ≡ record c.keep.new.self { last = c.args.self.now.last } =
    ap (λ (last : LastReplies). record m { last = last }) c.answer-told.ensures.last
    ∙ sym (ap (λ (v : WorldLinkView). record v { last = c.args.self.now.last }) c.keep.ensures) in
    subst (λ (v : WorldLinkView). IsAnswer c.args.self.now v c.args.ask.now c.answer-told.result) is c.answer-told.ensures.answer

-- the history gained entries, the reply is of it, and it is kept
pub returns-clause-went : goal.returns-clause-went
returns-clause-went c =
    direct_went c.more_entries.ensures.state c.args.self.now c.answer-told.new.self c.keep.new.self c.args.ask.now c.answer-told.result
    c.answer-told.ensures.grown c.answer-told.ensures.told c.answer-told.ensures.answer c.answer-told.ensures.refused (c.keep.ensures ∙ ap (λ (last : LastReplies). record c.answer-told.new.self { last = last })
    (c.after_direct-kept.ensures ∙ ap (λ (last : LastReplies). last_after last (direct c.args.ask.now c.answer-told.result)) c.last-last.ensures))
