-- the seat has seen the history as it was in its turn
use Rattle.std.proofs.Common.{rules, []}
use mathlib.Core.List.{IsPrefix}
use Rattle.turnstile.specs.Seats.{seen}
use Rattle.turnstile.specs.Turns.{turn_seen}
use Rattle.shared_log.proofs.SeatLemmas.{knows_then}
use Rattle.shared_log.proofs.shared.SharedLog.give_up.Goals as goal

pub returns-clause-known : goal.returns-clause-known
returns-clause-known g c =
    let grew : IsPrefix (seen c.args.seat.now) (turn_seen c.value-value.new.self) = search rules in
    knows_then _ _ _ (turn_seen c.value-value.new.self) [] grew (search rules)
