-- Internal. A turn at a turnstile.
use Rattle.std.specs.Prelude.{◌≡◌, ◌+◌, ◌<◌, ◌^◌, List, length}
use Rattle.turnstile.specs.declared.gate.Turnstile.{Turnstile}
use Rattle.turnstile.specs.declared.gate.Turn.{Turn}
use Rattle.turnstile.specs.declared.view.Phase.TheVariants.{Known}
use Rattle.turnstile.specs.Rule.{Sound}
use Rattle.turnstile.specs.Seats.{IsSeatOf}

module _ {T E K : Type 0} where
  -- the history, all of which the seat has seen
  abbrev pub turn_seen : Turn T E K → List E
  turn_seen t = t.seat.now.me.0.seen

  -- the turn is one of the turnstile's, and two more entries may be appended in it
  abbrev pub IsTurnOf : (T → K) → Turnstile T E K → Turn T E K → Type 0
  IsTurnOf setting g t = (t.turnstile.now ≡ g) × IsSeatOf setting g t.seat.now × (t.seat.now.me.0.phase ≡ Known) × (t.count ≡ length (turn_seen t)) × (t.count + 2 < 2 ^ 64) × Sound (turn_seen t) t.seat.now.me.0
