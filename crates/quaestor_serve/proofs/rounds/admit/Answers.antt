-- the connection has a thread, and is one of those that are served
use Rattle.quaestor_serve.specs.Served.{IsAtLog, KeptBy}
use denote.Param.{param, copied}
use Rattle.std.proofs.Common.{rules, ◌+◌, [], ◌∷◌, refl, ap}
use Rattle.std.specs.Arc.{arc_value}
use Rattle.quaestor_serve.proofs.CrossingLemmas.{leaves, connection_send}
use Rattle.quaestor_serve.proofs.GoingLemmas.{comes, goes_in, going_same, room_with}
use Rattle.quaestor_serve.proofs.HallLemmas.{keeps_with, ready_more}
use Rattle.quaestor_serve.proofs.rounds.admit.Goals as goal

pub start-handle-requires-send-F : goal.start-handle-requires-send-F
start-handle-requires-send-F g c κs within =
    let sent = connection_send [] (copied 4 g.row.R) (param 2 g.row.G) (param 3 g.row.H) (param 5 g.row.P-From) (param 6 g.row.P-To) (param 1 g.row.C) c.type_bounds.send-R c.type_bounds.send-G c.type_bounds.send-H c.type_bounds.send-P-From c.type_bounds.send-P-To c.type_bounds.send-C in
    record { owned = sent.owned; leaving = leaves 3 _ sent }

pub returns-clause-ready : goal.returns-clause-ready
returns-clause-ready g c = ready_more (arc_value c.start-handle.new.hall.turnstile) c.start-handle.new.hall.running.items c.push_back_reserved.new.self.items _ _ c.push_back_reserved.ensures.items (search rules) c.start-handle.ensures.hands.ready

pub returns-clause-room : goal.returns-clause-room
returns-clause-room g c = room_with (g.P.Doors.at c.start-handle.new.doors).away c.start-handle.new.hall.running.items c.push_back_reserved.new.self.items _ c.push_back_reserved.ensures.items (c.start-handle.ensures.hands.room 1 c.requires.room)

pub returns-clause-going : goal.returns-clause-going
returns-clause-going g c = λ given place base first before is_clone tied passed going.
    goes_in g.P.From.Source.at g.P.To.Sink.at g.P.To.Sink.ended g.C.Clock.tick (KeptBy g.H.Keeping.log g.H.Keeping.keeps) (g.C.Clone.is_clone given) (IsAtLog g.H.Keeping.log place) base first (g.P.Doors.at c.start-handle.new.doors) c.start-handle.new.hall _ _ (c.args.number + 1) refl c.push_back_reserved.ensures.items refl refl
    (c.start-handle.ensures.hands.going given place base first (c.start-handle.result.promise.begun.value ∷ []) (c.args.number + 1) 0
    (comes g.P.From.Source.at g.P.To.Sink.at g.P.To.Sink.ended g.C.Clock.tick (KeptBy g.H.Keeping.log g.H.Keeping.keeps) (g.C.Clone.is_clone given) (IsAtLog g.H.Keeping.log place) base first before (g.P.Doors.at c.args.doors.now) _ c.args.number c.start-handle.result.promise.begun.value c.args.source c.args.sink passed (search rules) (search rules) (search rules) (search rules) (search rules) (search rules)
    (going_same g.P.From.Source.at g.P.To.Sink.at g.P.To.Sink.ended g.C.Clock.tick (KeptBy g.H.Keeping.log g.H.Keeping.keeps) (g.C.Clone.is_clone given) (IsAtLog g.H.Keeping.log place) base first before c.args.hall.now _ [] c.args.number 0 (refl, refl, refl, ap (λ m. m.0.met) c.split-seat.ensures.view, ap (λ m. m.0.seen) c.split-seat.ensures.view) going)))

pub returns-clause-out : goal.returns-clause-out
returns-clause-out g c = keeps_with c.args.hall.now.running.items c.start-handle.new.hall.running.items c.push_back_reserved.new.self.items c.args.hall.now.seat c.split-seat.new.seat c.start-handle.new.hall.seat _ (λ n was. (c.split-seat.ensures.out n was).0) c.start-handle.ensures.hands.out c.push_back_reserved.ensures.items
