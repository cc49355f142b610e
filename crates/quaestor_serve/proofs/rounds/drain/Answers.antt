-- more were handed back
use Rattle.quaestor_serve.specs.Served.{IsAtLog, KeptBy}
use Rattle.std.proofs.Common.{rules}
use Rattle.quaestor_serve.proofs.GoingLemmas.{hands_none, hands_both}
use Rattle.quaestor_serve.proofs.rounds.drain.Goals as goal

pub loop-init : goal.loop-init
loop-init g c = (
  search rules,
  search rules,
  hands_none g.P.From.Source.at g.P.To.Sink.at g.P.To.Sink.ended g.C.Clock.tick (KeptBy g.H.Keeping.log g.H.Keeping.keeps) g.C.Clone.is_clone (IsAtLog g.H.Keeping.log) (g.P.Doors.at c.args.doors.now) c.args.hall.now c.requires.ready,
)

pub loop-preserved : goal.loop-preserved
loop-preserved g c = (
  search rules,
  search rules,
  hands_both g.P.From.Source.at g.P.To.Sink.at g.P.To.Sink.ended g.C.Clock.tick (KeptBy g.H.Keeping.log g.H.Keeping.keeps) g.C.Clone.is_clone (IsAtLog g.H.Keeping.log) (g.P.Doors.at c.args.doors.now) (g.P.Doors.at c.loop.doors) _ c.args.hall.now c.loop.hall c.hand_back_ended.new.hall c.loop.invariant.2 c.hand_back_ended.ensures,
)

pub returns-then-is_empty-clause-hands : goal.returns-then-is_empty-clause-hands
returns-then-is_empty-clause-hands g c =
    hands_both g.P.From.Source.at g.P.To.Sink.at g.P.To.Sink.ended g.C.Clock.tick (KeptBy g.H.Keeping.log g.H.Keeping.keeps) g.C.Clone.is_clone (IsAtLog g.H.Keeping.log) (g.P.Doors.at c.args.doors.now) (g.P.Doors.at c.loop.doors) _ c.args.hall.now c.loop.hall c.hand_back_ended.new.hall c.loop.invariant.2 c.hand_back_ended.ensures
