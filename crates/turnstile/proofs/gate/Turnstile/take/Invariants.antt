use Rattle.std.proofs.Common.{◌≡◌}
use mathlib.Core.List.{IsPrefix}
use Rattle.turnstile.specs.declared.view.Phase.TheVariants.{Free}
use Rattle.turnstile.specs.Views.{in_phase, with_seen}
use Rattle.turnstile.specs.Seats.{IsSame, seen}
use Rattle.turnstile.proofs.gate.Turnstile.take.Given as goal

-- but for what it has seen, the seat is as it was
abbrev pub invariant-loop : goal.invariant-loop
invariant-loop g l = IsSame l.initial.seat l.seat × (l.seat.me.1 ≡ l.initial.seat.me.1) × (in_phase Free l.seat.me.0 ≡ in_phase Free (with_seen (seen l.seat) l.initial.seat.me.0)) × IsPrefix (seen l.initial.seat) (seen l.seat)
