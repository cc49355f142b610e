use Rattle.std.proofs.Common.{◌≡◌, sym, ap, ◌∙◌, subst}
use Rattle.client_session.specs.declared.last.LastReplies.{LastReplies}
use Rattle.client_session.specs.Link.{page, last_after}
use Rattle.world_core.specs.Link.{WorldLinkView, IsPageAnswer}
use Rattle.world_core.proofs.LinkLemmas.{page_went}
use Rattle.world_core.proofs.link.WorldLinkLink.page.Goals as goal

-- what the call made of the store and the caches, whatever is then kept
pub returns-clause-answered : goal.returns-clause-answered
returns-clause-answered c =
    let m = c.fetched-told.new.self in
    let is : m ≡ record c.keep.new.self { last = c.args.self.now.last } =
    ap (λ (last : LastReplies). record m { last = last }) c.fetched-told.ensures.last
    ∙ sym (ap (λ (v : WorldLinkView). record v { last = c.args.self.now.last }) c.keep.ensures) in
    subst (λ (v : WorldLinkView). IsPageAnswer c.args.self.now v c.fetched-told.result) is c.fetched-told.ensures.answered

-- the history gained entries, the reply is of it, and it is kept
pub returns-clause-went : goal.returns-clause-went
returns-clause-went c =
    page_went c.more_entries.ensures.state c.args.self.now c.fetched-told.new.self c.keep.new.self c.fetched-told.result
    c.fetched-told.ensures.grown c.fetched-told.ensures.refused c.fetched-told.ensures.answered (c.keep.ensures ∙ ap (λ (last : LastReplies). record c.fetched-told.new.self { last = last })
    (c.after_page-kept.ensures ∙ ap (λ (last : LastReplies). last_after last (page c.fetched-told.result)) c.last-last.ensures))
