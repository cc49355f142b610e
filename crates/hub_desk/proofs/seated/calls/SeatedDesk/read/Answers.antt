-- what the desk knew is a prefix of what it has seen once it has the turn
use Rattle.std.proofs.Common.{rules, ap, ◌∙◌}
use mathlib.Core.List.{IsPrefix}
use Rattle.turnstile.specs.Seats.{seen, setting_of}
use Rattle.turnstile.specs.Turns.{turn_seen}
use Rattle.hub_desk.specs.HubValue.{hub_setting}
use Rattle.hub_desk.specs.Seated.{seat_of}
use Rattle.hub_desk.proofs.SeatedLemmas.{counted_again, fresh}
use Rattle.hub_desk.proofs.seated.calls.SeatedDesk.read.Goals as goal

pub returns-in-Ok-clause-fresh : goal.returns-in-Ok-clause-fresh
returns-in-Ok-clause-fresh g c =
    let stands = c.value-value.ensures.stands in
    let grew : IsPrefix (seen (seat_of c.args.self.now)) (turn_seen c.value-value.new.self) = search rules in
    fresh _ _ _ _ _ c.longer_histories_are_later.ensures grew stands.0 (stands.1 ∙ ap (setting_of hub_setting) c.take-turn.ensures.turn.0) (c.in-Ok.ensures.last _ stands.0)

-- the seat has seen as many commits as was told when the turn was given back
pub invariant_of-self-clause-counted : goal.invariant_of-self-clause-counted
invariant_of-self-clause-counted g c = counted_again _ _ _ _ _ c.give_with.ensures.commits (ap (setting_of hub_setting) (c.value-value.ensures.turn.0 ∙ c.take-turn.ensures.turn.0)) (search rules)

pub invariant_of-self-in-Err-clause-counted : goal.invariant_of-self-in-Err-clause-counted
invariant_of-self-in-Err-clause-counted g c = counted_again _ _ _ _ _ c.give_unchanged.ensures.commits (ap (setting_of hub_setting) (c.value-value.ensures.turn.0 ∙ c.take-turn.ensures.turn.0)) (search rules)
