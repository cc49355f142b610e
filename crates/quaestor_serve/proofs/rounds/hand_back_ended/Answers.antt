-- more were handed back
use Rattle.quaestor_serve.specs.Served.{IsAtLog, KeptBy}
use Rattle.quaestor_serve.proofs.GoingLemmas.{hands_none, hands_both}
use Rattle.quaestor_serve.proofs.rounds.hand_back_ended.Goals as goal

pub loop-n-init : goal.loop-n-init
loop-n-init g c = hands_none g.P.From.Source.at g.P.To.Sink.at g.P.To.Sink.ended g.C.Clock.tick (KeptBy g.H.Keeping.log g.H.Keeping.keeps) g.C.Clone.is_clone (IsAtLog g.H.Keeping.log) (g.P.Doors.at c.args.doors.now) c.args.hall.now c.requires.ready

pub loop-n-preserved : goal.loop-n-preserved
loop-n-preserved g c = hands_both g.P.From.Source.at g.P.To.Sink.at g.P.To.Sink.ended g.C.Clock.tick (KeptBy g.H.Keeping.log g.H.Keeping.keeps) g.C.Clone.is_clone (IsAtLog g.H.Keeping.log) (g.P.Doors.at c.args.doors.now) (g.P.Doors.at c.loop-n.doors) _ c.args.hall.now c.loop-n.hall c.hand_back_at.new.hall c.loop-n.invariant c.hand_back_at.ensures
