-- the connection pauses, one request later at least with each visit
use Rattle.std.specs.Prelude.{◌≡◌, ◌≤◌}
use Rattle.dialogue.specs.Visit.{MayGoOn}
use Rattle.dialogue.proofs.VisitLemmas.{Speaking}
use Rattle.hub_model.specs.Legal.{IsLegal}
use Rattle.quaestor_server.specs.Visit.{answers_of}
use Rattle.quaestor_server.proofs.visits.serve_visits.Given as goal

abbrev pub invariant-loop-visit : goal.invariant-loop-visit
invariant-loop-visit g l = record {
  legal : IsLegal (g.D.Desk.setting l.fn.desk) (g.D.Desk.seen l.desk);
  setting : g.D.Desk.setting l.desk ≡ g.D.Desk.setting l.fn.desk;
  anchor : g.D.Desk.anchor l.desk ≡ g.D.Desk.anchor l.fn.desk;
  rooms : g.P.Rooms.setting l.rooms ≡ g.P.Rooms.setting l.fn.rooms;
  speaking : Speaking (answers_of g.D.Desk.setting g.D.Desk.may_be_unready g.D.Desk.seen g.D.Desk.mine g.D.Desk.anchor g.D.Desk.is_kept g.C.Clock.tick)
      (record { desk = l.fn.desk; clock = l.fn.clock }) (record { desk = l.desk; clock = l.clock })
      (record { source = g.S.Source.at l.fn.source; sink = g.K.Sink.at l.fn.sink })
      (record { source = g.S.Source.at l.source; sink = g.K.Sink.at l.sink })
      l.pause;
  many : l._visit ≤ l.pause.requests;
  more : MayGoOn l.pause;
}
