-- what came of storing is as the seat knew when the log was taken
use Rattle.std.proofs.Common.{[], ◌∷◌, rules, ap, ◌∙◌}
use mathlib.Core.List.{IsPrefix}
use Rattle.turnstile.specs.Seats.{seen, setting_of}
use Rattle.turnstile.specs.Turns.{turn_seen}
use Rattle.shared_log.specs.LogValues.{mark_of, opened_of}
use Rattle.shared_log.specs.Notes.{Stored}
use Rattle.shared_log.proofs.SeatLemmas.{knows_then}
use Rattle.shared_log.proofs.StandLemmas.{put_stored, put_unstored}
use Rattle.shared_log.proofs.shared.SharedLog.put_back.Goals as goal

pub give_stored-requires-clause-stands : goal.give_stored-requires-clause-stands
give_stored-requires-clause-stands g c =
    let grew : IsPrefix (seen c.args.seat.now) (turn_seen c.value-value.new.self) = search rules in
    put_stored (setting_of opened_of c.args.self.now.turnstile) c.value-value.result c.put_back.new.self (turn_seen c.value-value.new.self) (seen c.args.seat.now) c.args.work.log c.of-log.result.value (mark_of c.args.work.from) (mark_of c.args.work.to) c.args.stored
    (c.value-value.ensures.stands.1 ∙ ap (setting_of opened_of) c.take-turn.ensures.turn.0) c.of-log.ensures c.in-Ok.ensures.done c.in-Ok.ensures.back c.value-value.ensures.stands.0 grew c.requires.done

pub give_unchanged-requires-clause-stands : goal.give_unchanged-requires-clause-stands
give_unchanged-requires-clause-stands g c =
    let grew : IsPrefix (seen c.args.seat.now) (turn_seen c.value-value.new.self) = search rules in
    put_unstored (setting_of opened_of c.args.self.now.turnstile) c.value-value.result c.put_back.new.self (turn_seen c.value-value.new.self) (seen c.args.seat.now) c.args.work.log (mark_of c.args.work.from) (mark_of c.args.work.to) c.args.stored
    (c.value-value.ensures.stands.1 ∙ ap (setting_of opened_of) c.take-turn.ensures.turn.0) c.in-Err.ensures.lost c.value-value.ensures.stands.0 grew c.requires.done

pub returns-in-Ok-clause-known : goal.returns-in-Ok-clause-known
returns-in-Ok-clause-known g c =
    let grew : IsPrefix (seen c.args.seat.now) (turn_seen c.value-value.new.self) = search rules in
    knows_then _ _ _ (turn_seen c.value-value.new.self) (Stored c.args.work.to.frames c.of-log.result.value ∷ []) grew (search rules)

pub returns-in-Err-clause-known : goal.returns-in-Err-clause-known
returns-in-Err-clause-known g c =
    let grew : IsPrefix (seen c.args.seat.now) (turn_seen c.value-value.new.self) = search rules in
    knows_then _ _ _ (turn_seen c.value-value.new.self) [] grew (search rules)
