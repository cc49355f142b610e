-- the desk has seen the history as it was in its turn, and no more
use Rattle.std.proofs.Common.{rules, ap, ◌∙◌}
use Rattle.turnstile.specs.Seats.{setting_of}
use Rattle.turnstile.specs.Turns.{turn_seen}
use Rattle.hub_desk.specs.HubValue.{hub_setting}
use Rattle.hub_desk.proofs.FiguresLemmas.{figured}
use Rattle.hub_desk.proofs.SeatedLemmas.{counted_again}
use Rattle.hub_desk.proofs.seated.calls.SeatedDesk.figures.Goals as goal

pub returns-clause-figures : goal.returns-clause-figures
returns-clause-figures g c =
    let stands = c.value-value.ensures.stands in
    figured _ _ (turn_seen c.value-value.new.self) _ _ (stands.1 ∙ ap (setting_of hub_setting) c.take-turn.ensures.turn.0) (search rules) (c.figures-figures.ensures.figures _ stands.0)

-- the seat has seen as many commits as was told when the turn was given back
pub invariant_of-self-clause-counted : goal.invariant_of-self-clause-counted
invariant_of-self-clause-counted g c = counted_again _ _ _ _ _ c.give_unchanged.ensures.commits (ap (setting_of hub_setting) (c.value-value.ensures.turn.0 ∙ c.take-turn.ensures.turn.0)) (search rules)
