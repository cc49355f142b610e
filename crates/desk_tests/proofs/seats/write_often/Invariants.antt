-- no write changes what the desk is tied to
use Rattle.std.proofs.Common.{◌≡◌}
use Rattle.desk_tests.proofs.seats.write_often.Given as goal

abbrev pub invariant-loop-turn : goal.invariant-loop-turn
invariant-loop-turn g l = g.D.Desk.anchor l.desk ≡ g.D.Desk.anchor l.fn.desk
