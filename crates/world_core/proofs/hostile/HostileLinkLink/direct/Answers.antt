use Rattle.std.proofs.Common.{ap, ◌∙◌, subst}
use Rattle.client_session.specs.declared.last.LastReplies.{LastReplies}
use Rattle.client_session.specs.Link.{direct, last_after}
use Rattle.world_core.specs.Hostile.{HostileView, IsHostileCall, with_last}
use Rattle.world_core.proofs.HostileLemmas.{but_for_last, hostile_direct_went}
use Rattle.world_core.proofs.hostile.HostileLinkLink.direct.Goals as goal

-- what the call made of the link, whatever is then kept
pub returns-clause-answered : goal.returns-clause-answered
returns-clause-answered c =
    subst (λ (v : HostileView). IsHostileCall c.args.self.now v c.args.ask.now c.answer-told.result)
    (but_for_last c.args.self.now c.answer-told.new.self c.keep.new.self c.after_direct-kept.result c.answer-told.ensures.last c.keep.ensures) c.answer-told.ensures.call

-- the history gained entries, the reply is of it, and it is kept
pub returns-clause-went : goal.returns-clause-went
returns-clause-went c =
    hostile_direct_went c.more_entries.ensures.state c.args.self.now c.answer-told.new.self c.keep.new.self c.args.ask.now c.answer-told.result
    c.answer-told.ensures.grown c.answer-told.ensures.told c.answer-told.ensures.call c.answer-told.ensures.refused (c.keep.ensures ∙ ap (λ (last : LastReplies). with_last last c.answer-told.new.self)
    (c.after_direct-kept.ensures ∙ ap (λ (last : LastReplies). last_after last (direct c.args.ask.now c.answer-told.result)) c.last-last.ensures))
