-- each visit goes on with the connection, or ends it
use Rattle.std.proofs.Common.{refl, sym, ◌∙◌, arith}
use Rattle.dialogue.proofs.VisitLemmas.{silent, waited, speaks_on, speaks_to_the_end, rests_at}
use Rattle.quaestor_server.proofs.ConversationLemmas.{conversation}
use Rattle.quaestor_server.proofs.VisitLemmas.{room_at, legal_at}
use Rattle.quaestor_server.proofs.visits.serve_visits.Goals as goal

pub loop-visit-init : goal.loop-visit-init
loop-visit-init g c = record {
  legal = c.requires.legal;
  setting = refl;
  anchor = refl;
  rooms = refl;
  speaking = silent _ _ _;
  many = omega arith;
  more = record { few = omega arith; small = omega arith };
}

pub serve_visit-end-requires-clause-legal : goal.serve_visit-end-requires-clause-legal
serve_visit-end-requires-clause-legal g c = legal_at _ _ _ (sym c.loop-visit.invariant.setting) c.loop-visit.invariant.legal

pub serve_visit-end-requires-clause-room : goal.serve_visit-end-requires-clause-room
serve_visit-end-requires-clause-room g c =
    let i = c.loop-visit.invariant in
    room_at _ _ _ c.take-room.result.config (i.rooms ∙ c.requires.rooms ∙ sym i.setting) c.take-room.ensures.room

pub put-requires : goal.put-requires
put-requires g c =
    let i = c.loop-visit.invariant in
    record {
      room =
          room_at _ _ _ c.serve_visit-end.new.room.config (i.setting ∙ sym c.requires.rooms ∙ sym i.rooms ∙ sym c.take-room.ensures.setting)
          c.serve_visit-end.ensures.room;
    }

pub loop-visit-preserved : goal.loop-visit-preserved
loop-visit-preserved g c =
    let i = c.loop-visit.invariant in
    let r = rests_at c.loop-visit.pause c.in-Quiet.next _ c.in-Quiet.is c.serve_visit-end.ensures.rests in
    record {
      legal = legal_at _ _ _ i.setting c.serve_visit-end.ensures.legal;
      setting = c.serve_visit-end.ensures.setting ∙ i.setting;
      anchor = c.serve_visit-end.ensures.anchor ∙ i.anchor;
      rooms = c.put.ensures.setting ∙ c.take-room.ensures.setting ∙ i.rooms;
      speaking = speaks_on _ _ _ _ _ _ _ _ c.in-Quiet.next _ (waited _ _ _ _ _ _ _ c.wait.ensures i.speaking) c.in-Quiet.is c.serve_visit-end.ensures.visit;
      many = omega (arith, r.0, i.many);
      more = r.1;
    }

pub returns-in-Ended-clause-conversation : goal.returns-in-Ended-clause-conversation
returns-in-Ended-clause-conversation g c =
    let i = c.loop-visit.invariant in
    conversation (λ a. a.desk) (λ a. a.clock) g.D.Desk.setting g.D.Desk.may_be_unready g.D.Desk.seen g.D.Desk.mine g.D.Desk.anchor g.D.Desk.is_kept g.C.Clock.tick _ _ _ _ _ _ _
    (speaks_to_the_end _ _ _ _ _ _ _ _ _ _ (waited _ _ _ _ _ _ _ c.wait.ensures i.speaking) c.in-Ended.is c.serve_visit-end.ensures.visit) refl refl
