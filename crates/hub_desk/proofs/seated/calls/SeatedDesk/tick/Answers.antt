-- the seat has seen as many commits as was told when the turn was given back
use Rattle.std.proofs.Common.{rules, ap, ◌∙◌}
use Rattle.turnstile.specs.Seats.{setting_of}
use Rattle.hub_desk.specs.HubValue.{hub_setting}
use Rattle.hub_desk.proofs.SeatedLemmas.{counted_again}
use Rattle.hub_desk.proofs.seated.calls.SeatedDesk.tick.Goals as goal

pub invariant_of-self-clause-counted : goal.invariant_of-self-clause-counted
invariant_of-self-clause-counted g c = counted_again _ _ _ _ _ c.give_with.ensures.commits (ap (setting_of hub_setting) (c.value-value.ensures.turn.0 ∙ c.take-turn.ensures.turn.0)) (search rules)
