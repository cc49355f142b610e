use Rattle.std.proofs.Common.{ap, ◌∙◌, subst}
use Rattle.client_session.specs.declared.last.LastReplies.{LastReplies}
use Rattle.client_session.specs.Link.{page, last_after}
use Rattle.world_core.specs.Hostile.{HostileView, IsHostilePage, with_last}
use Rattle.world_core.proofs.HostileLemmas.{but_for_last, page_made}
use Rattle.world_core.proofs.LinkLemmas.{page_went}
use Rattle.world_core.proofs.hostile.HostileLinkLink.page.Goals as goal

-- what the call made of the link, whatever is then kept
pub returns-clause-answered : goal.returns-clause-answered
returns-clause-answered c =
    subst (λ (v : HostileView). IsHostilePage c.args.self.now v c.fetched-told.result)
    (but_for_last c.args.self.now c.fetched-told.new.self c.keep.new.self c.after_page-kept.result c.fetched-told.ensures.last c.keep.ensures)
    (page_made c.args.self.now c.fetched-told.new.self c.fetched-told.result c.fetched-told.ensures.answered c.fetched-told.ensures.rest)

-- the history gained entries, the page is of it, and it is kept
pub returns-clause-went : goal.returns-clause-went
returns-clause-went c =
    page_went c.more_entries.ensures.state c.args.self.now.link c.fetched-told.new.self.link c.keep.new.self.link c.fetched-told.result
    c.fetched-told.ensures.grown c.fetched-told.ensures.refused c.fetched-told.ensures.answered (ap (λ (v : HostileView). v.link) (c.keep.ensures ∙ ap (λ (last : LastReplies). with_last last c.fetched-told.new.self)
    (c.after_page-kept.ensures ∙ ap (λ (last : LastReplies). last_after last (page c.fetched-told.result)) c.last-last.ensures)))
