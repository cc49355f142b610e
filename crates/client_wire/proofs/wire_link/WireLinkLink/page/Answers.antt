use Rattle.std.proofs.Common.{refl, ap, ◌∙◌}
use Rattle.client_session.specs.declared.last.LastReplies.{LastReplies}
use Rattle.client_session.specs.Link.{page, last_after}
use Rattle.client_wire.proofs.wire_link.WireLinkLink.page.Goals as goal

-- the counts rose with the answer, which is kept
pub returns-clause-went : goal.returns-clause-went
returns-clause-went g c = record {
  setting = refl;
  tells = refl;
  counts = c.ask_page-told.ensures.counts c.args.self.now.last c.after_page-self.result;
  kept = c.after_page-self.ensures ∙ ap (λ (last : LastReplies). last_after last (page c.ask_page-told.result)) c.ask_page-told.ensures.last;
}
