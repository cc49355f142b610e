use Rattle.std.proofs.Common.{refl, ap, ◌∙◌}
use Rattle.client_session.specs.declared.last.LastReplies.{LastReplies}
use Rattle.client_session.specs.Link.{direct, last_after}
use Rattle.client_wire.proofs.wire_link.WireLinkLink.direct.Goals as goal

-- the counts rose with the answer, which is kept
pub returns-clause-went : goal.returns-clause-went
returns-clause-went g c = record {
  setting = refl;
  tells = refl;
  counts = c.ask-told.ensures.counts c.args.self.now.last c.after_direct-self.result;
  kept = c.after_direct-self.ensures ∙ ap (λ (last : LastReplies). last_after last (direct c.args.ask.now c.ask-told.result)) c.ask-told.ensures.last;
}
