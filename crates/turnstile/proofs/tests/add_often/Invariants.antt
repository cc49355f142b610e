use Rattle.std.proofs.Common.{◌≡◌}
use Rattle.turnstile.specs.Seats.{IsSame, IsIdle}
use Rattle.turnstile.proofs.tests.add_often.Given as goal

-- it is the same seat, without a turn
abbrev pub invariant-loop : goal.invariant-loop
invariant-loop g l = IsSame l.initial.seat l.seat × IsIdle l.seat
