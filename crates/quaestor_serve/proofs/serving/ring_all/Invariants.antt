-- the number of connections that came is that of the rounds, and the doors were not closed
use Rattle.quaestor_serve.specs.Served.{IsAtLog, KeptBy}
use Rattle.std.proofs.Common.{◌≡◌, ℕ, List, [], length}
use Rattle.hub_model.specs.declared.entry.Entry.{Entry}
use Rattle.q_outside.specs.Doors.{DoorsView}
use Rattle.quaestor_serve.specs.Going.{Going, HaveRoom}
use Rattle.quaestor_serve.specs.Halls.{IsReady, Stays, KeepsOut}
use Rattle.quaestor_serve.specs.Matchers.{WorkIn}
use Rattle.quaestor_serve.proofs.serving.ring_all.Given as goal

abbrev pub invariant-loop-given : goal.invariant-loop-given
invariant-loop-given g l =
    IsReady l.hall
    × HaveRoom (g.P.Doors.at l.doors) l.hall 0
    × Stays l.initial.hall l.hall
    × WorkIn g.C.Clock.tick l.trim (g.C.Clone.is_clone l.clock) l.hall l.matchers.items
    × ((base : List (ℕ × Entry)) (first : DoorsView g.row.P-From.Denot g.row.P-To.Denot)
    → Going g.P.From.Source.at g.P.To.Sink.at g.P.To.Sink.ended g.C.Clock.tick (KeptBy g.Q.Hand.Keeping.log g.Q.Hand.Keeping.keeps) (g.C.Clone.is_clone l.clock) (IsAtLog g.Q.Hand.Keeping.log (g.Q.Keeper.log l.initial.keeper)) base first (g.P.Doors.at l.initial.doors) l.initial.hall [] 0 0
    → Going g.P.From.Source.at g.P.To.Sink.at g.P.To.Sink.ended g.C.Clock.tick (KeptBy g.Q.Hand.Keeping.log g.Q.Hand.Keeping.keeps) (g.C.Clone.is_clone l.clock) (IsAtLog g.Q.Hand.Keeping.log (g.Q.Keeper.log l.initial.keeper)) base first (g.P.Doors.at l.doors) l.hall [] l.given 0)
    × KeepsOut l.initial.hall l.hall
    × (length l.matchers.items ≡ length l.initial.matchers.items)
    × (g.Q.Keeper.may_fail l.keeper ≡ g.Q.Keeper.may_fail l.initial.keeper)
    × (g.Q.Keeper.log l.keeper ≡ g.Q.Keeper.log l.initial.keeper)
