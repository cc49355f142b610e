-- an item was taken, and then answered
use Rattle.dialogue.proofs.RoundLemmas.{round_of_request, round_of_unframed}
use Rattle.dialogue.proofs.rounds.round.Goals as goal

pub returns-in-Request-clause-round : goal.returns-in-Request-clause-round
returns-in-Request-clause-round g c =
    round_of_request _ _ _ _ (record { source = _; sink = _ }) _ _ _ _ _ _ _ _ _ _ _ _ c.request-request.ensures c.in-Request.ensures.taken.0 c.is_stopping-stops.ensures.keeps c.is_stopping-stops.ensures.hidden c.is_last.ensures c.answer-given.ensures.reply c.end_of-end.ensures c.of.ensures

pub returns-in-Framing-clause-round : goal.returns-in-Framing-clause-round
returns-in-Framing-clause-round g c =
    let taken = c.in-Framing.ensures.taken in
    round_of_unframed _ _ _ _ _ _ _ _ _ _ taken.0 _ _ _ _ taken.1 taken.2 (c.refuse-given.ensures.reply taken.0) c.of-in-Framing.ensures
