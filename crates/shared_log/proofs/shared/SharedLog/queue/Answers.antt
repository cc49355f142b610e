-- the seat has seen the history as it was in its turn, and what it added
use Rattle.std.proofs.Common.{ℕ, List, [], ◌∷◌, ◌++◌, rules, subst, sym, ap, ◌∙◌}
use mathlib.Core.List.{IsPrefix}
use Rattle.turnstile.specs.Seats.{seen, setting_of}
use Rattle.turnstile.specs.Turns.{turn_seen}
use Rattle.shared_log.specs.LogValues.{StandsFor, opened_of}
use Rattle.shared_log.specs.Notes.{Queued}
use Rattle.shared_log.proofs.SeatLemmas.{knows_then}
use Rattle.shared_log.proofs.StandLemmas.{queued_as}
use Rattle.shared_log.proofs.shared.SharedLog.queue.Goals as goal

-- the entry has the bytes of the body
pub give_queued-requires-clause-stands : goal.give_queued-requires-clause-stands
give_queued-requires-clause-stands g c = subst (λ (b : List ℕ). StandsFor c.queue.new.self (turn_seen c.value-value.new.self ++ Queued (record { kind = 1; clock = c.args.clock; body = b }) ∷ [])) (sym c.as_slice.ensures.same) (c.in-Ok.ensures.queued.1 (turn_seen c.value-value.new.self) c.value-value.ensures.stands.0)

pub returns-in-Ok-clause-known : goal.returns-in-Ok-clause-known
returns-in-Ok-clause-known g c =
    let grew : IsPrefix (seen c.args.seat.now) (turn_seen c.value-value.new.self) = search rules in
    knows_then _ _ _ (turn_seen c.value-value.new.self) (Queued (record { kind = 1; clock = c.args.clock; body = c.as_slice.result.now }) ∷ []) grew (search rules)

pub returns-in-Err-clause-known : goal.returns-in-Err-clause-known
returns-in-Err-clause-known g c =
    let grew : IsPrefix (seen c.args.seat.now) (turn_seen c.value-value.new.self) = search rules in
    knows_then _ _ _ (turn_seen c.value-value.new.self) [] grew (search rules)

-- the number is the next one, as the value counts the commits of its history
pub returns-in-Ok-clause-queued : goal.returns-in-Ok-clause-queued
returns-in-Ok-clause-queued g c = queued_as (setting_of opened_of c.args.self.now.turnstile) c.value-value.result (turn_seen c.value-value.new.self) _ c.args.commit c.args.clock c.args.body.now c.as_slice.result.now
    (c.value-value.ensures.stands.1 ∙ ap (setting_of opened_of) c.take-turn.ensures.turn.0) c.as_slice.ensures.same (search rules) c.value-value.ensures.stands.0 c.in-Ok.ensures.next
