-- at first no connection came, and starting matchers changes nothing for connections
use Rattle.quaestor_serve.specs.Served.{IsAtLog, KeptBy}
use Rattle.std.proofs.Common.{[], length, refl}
use Rattle.quaestor_serve.proofs.GoingLemmas.{going_begins, going_same}
use Rattle.quaestor_serve.proofs.HallLemmas.{all_out}
use Rattle.quaestor_serve.proofs.ServesLemmas.{ends_none}
use Rattle.quaestor_serve.proofs.serving.serve_filled.Goals as goal

pub returns-then-is_err-clause-ends : goal.returns-then-is_err-clause-ends
returns-then-is_err-clause-ends g c = λ base met_is once.
    ends_none g.P.From.Source.at g.P.To.Sink.at g.P.To.Sink.ended g.C.Clock.tick (KeptBy g.Q.Hand.Keeping.log g.Q.Hand.Keeping.keeps) (g.C.Clone.is_clone c.args.clock.now) (IsAtLog g.Q.Hand.Keeping.log (g.Q.Keeper.log c.args.keeper.now)) base (g.P.Doors.at c.args.doors.now) c.start_matchers.new.hall c.args.connections c.no_memory.result c.requires.some c.no_memory.ensures
    (going_same g.P.From.Source.at g.P.To.Sink.at g.P.To.Sink.ended g.C.Clock.tick (KeptBy g.Q.Hand.Keeping.log g.Q.Hand.Keeping.keeps) (g.C.Clone.is_clone c.args.clock.now) (IsAtLog g.Q.Hand.Keeping.log (g.Q.Keeper.log c.args.keeper.now)) base (g.P.Doors.at c.args.doors.now) (g.P.Doors.at c.args.doors.now) c.args.hall.now c.start_matchers.new.hall [] 0 0 c.start_matchers.ensures.same (going_begins g.P.From.Source.at g.P.To.Sink.at g.P.To.Sink.ended g.C.Clock.tick (KeptBy g.Q.Hand.Keeping.log g.Q.Hand.Keeping.keeps) (g.C.Clone.is_clone c.args.clock.now) (IsAtLog g.Q.Hand.Keeping.log (g.Q.Keeper.log c.args.keeper.now)) base (g.P.Doors.at c.args.doors.now) c.args.hall.now c.requires.empty met_is once))

pub returns-clause-ends : goal.returns-clause-ends
returns-clause-ends g c = λ base met_is once.
    c.ring_all.ensures.ends base (g.P.Doors.at c.args.doors.now)
    (going_same g.P.From.Source.at g.P.To.Sink.at g.P.To.Sink.ended g.C.Clock.tick (KeptBy g.Q.Hand.Keeping.log g.Q.Hand.Keeping.keeps) (g.C.Clone.is_clone c.args.clock.now) (IsAtLog g.Q.Hand.Keeping.log (g.Q.Keeper.log c.args.keeper.now)) base (g.P.Doors.at c.args.doors.now) (g.P.Doors.at c.args.doors.now) c.args.hall.now c.start_matchers.new.hall [] 0 0 c.start_matchers.ensures.same (going_begins g.P.From.Source.at g.P.To.Sink.at g.P.To.Sink.ended g.C.Clock.tick (KeptBy g.Q.Hand.Keeping.log g.Q.Hand.Keeping.keeps) (g.C.Clone.is_clone c.args.clock.now) (IsAtLog g.Q.Hand.Keeping.log (g.Q.Keeper.log c.args.keeper.now)) base (g.P.Doors.at c.args.doors.now) c.args.hall.now c.requires.empty met_is once))

pub returns-clause-out : goal.returns-clause-out
returns-clause-out g c = λ out. all_out c.args.hall.now.running.items c.start_matchers.new.hall.running.items c.ring_all.new.hall.running.items c.start_matchers.new.hall.seat c.ring_all.new.hall.seat (length c.start_matchers.new.matchers.items) (length c.ring_all.new.matchers.items) c.requires.empty c.start_matchers.ensures.same.2 c.ring_all.ensures.count (c.start_matchers.ensures.out 0 out) c.ring_all.ensures.out

pub returns-then-is_err-clause-out : goal.returns-then-is_err-clause-out
returns-then-is_err-clause-out g c = λ out. all_out c.args.hall.now.running.items c.start_matchers.new.hall.running.items c.start_matchers.new.hall.running.items c.start_matchers.new.hall.seat c.start_matchers.new.hall.seat (length c.start_matchers.new.matchers.items) (length c.start_matchers.new.matchers.items) c.requires.empty c.start_matchers.ensures.same.2 refl (c.start_matchers.ensures.out 0 out) (λ others was. was)
