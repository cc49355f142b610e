-- only such entries were made so far
use Rattle.std.proofs.Common.{◌≡◌}
use Rattle.quaestor_serve.specs.Matches.{Matches}
use Rattle.quaestor_serve.proofs.matching.work_until_stopped.Given as goal

abbrev pub invariant-loop : goal.invariant-loop
invariant-loop g l =
    (goal.iterator-loop g).can_next l.iterator' × (goal.iterator-loop g).is_finite l.iterator'
    × Matches g.C.Clock.tick (g.D.Desk.setting l.initial.desk) l.trim (g.D.Desk.seen l.initial.desk) (g.D.Desk.seen l.desk) (g.D.Desk.mine l.initial.desk) (g.D.Desk.mine l.desk) l.initial.clock l.clock
    × (g.D.Desk.anchor l.desk ≡ g.D.Desk.anchor l.initial.desk)
    × (g.D.Desk.setting l.desk ≡ g.D.Desk.setting l.initial.desk)
