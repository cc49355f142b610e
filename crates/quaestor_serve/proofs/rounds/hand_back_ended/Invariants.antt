-- connections were handed back so far
use Rattle.quaestor_serve.specs.Served.{IsAtLog, KeptBy}
use Rattle.quaestor_serve.specs.Going.{HandsBack}
use Rattle.quaestor_serve.proofs.rounds.hand_back_ended.Given as goal

abbrev pub invariant-loop-n : goal.invariant-loop-n
invariant-loop-n g l = HandsBack g.P.From.Source.at g.P.To.Sink.at g.P.To.Sink.ended g.C.Clock.tick (KeptBy g.H.Keeping.log g.H.Keeping.keeps) g.C.Clone.is_clone (IsAtLog g.H.Keeping.log) (g.P.Doors.at l.initial.doors) (g.P.Doors.at l.doors) l.initial.hall l.hall
