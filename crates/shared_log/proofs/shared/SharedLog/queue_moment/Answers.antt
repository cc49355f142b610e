-- the seat has seen the history as it was in its turn, and what it added
use Rattle.std.proofs.Common.{rules, [], ◌∷◌}
use mathlib.Core.List.{IsPrefix}
use Rattle.turnstile.specs.Seats.{seen}
use Rattle.turnstile.specs.Turns.{turn_seen}
use Rattle.shared_log.specs.Notes.{Queued}
use Rattle.shared_log.proofs.SeatLemmas.{knows_then}
use Rattle.shared_log.proofs.shared.SharedLog.queue_moment.Goals as goal

pub returns-then-clock-kept-clause-known : goal.returns-then-clock-kept-clause-known
returns-then-clock-kept-clause-known g c =
    let grew : IsPrefix (seen c.args.seat.now) (turn_seen c.value-value.new.self) = search rules in
    knows_then _ _ _ (turn_seen c.value-value.new.self) [] grew (search rules)

pub returns-in-Ok-clause-known : goal.returns-in-Ok-clause-known
returns-in-Ok-clause-known g c =
    let grew : IsPrefix (seen c.args.seat.now) (turn_seen c.value-value.new.self) = search rules in
    knows_then _ _ _ (turn_seen c.value-value.new.self) (Queued (record { kind = 2; clock = c.args.moment; body = [] }) ∷ []) grew (search rules)

pub returns-in-Err-clause-known : goal.returns-in-Err-clause-known
returns-in-Err-clause-known g c =
    let grew : IsPrefix (seen c.args.seat.now) (turn_seen c.value-value.new.self) = search rules in
    knows_then _ _ _ (turn_seen c.value-value.new.self) [] grew (search rules)
