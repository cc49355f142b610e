-- what was found in the value, whose history the seat has seen
use Rattle.std.proofs.Common.{rules, [], ap, ◌∙◌}
use mathlib.Core.List.{IsPrefix}
use Rattle.turnstile.specs.Seats.{seen, setting_of}
use Rattle.turnstile.specs.Turns.{turn_seen}
use Rattle.shared_log.specs.LogValues.{opened_of}
use Rattle.shared_log.proofs.SeatLemmas.{knows_then}
use Rattle.shared_log.proofs.StandLemmas.{found_at}
use Rattle.shared_log.proofs.shared.SharedLog.look.Goals as goal

pub returns-clause-found : goal.returns-clause-found
returns-clause-found g c = found_at c.args.self.now.turnstile _ (opened_of c.value-value.result) (turn_seen c.value-value.new.self) c.args.commits c.args.moment c.found_in-found.result
    (c.value-value.ensures.stands.1 ∙ ap (setting_of opened_of) c.take-turn.ensures.turn.0) (search rules) (c.found_in-found.ensures.found (turn_seen c.value-value.new.self) c.value-value.ensures.stands.0)

pub returns-clause-known : goal.returns-clause-known
returns-clause-known g c =
    let grew : IsPrefix (seen c.args.seat.now) (turn_seen c.value-value.new.self) = search rules in
    knows_then _ _ _ (turn_seen c.value-value.new.self) [] grew (search rules)
