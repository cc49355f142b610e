use Rattle.match_sets.proofs.UndoLemmas.{made_to}
use Rattle.match_sets.proofs.laws.steps_are_taken_back_in_turn.Goals as goal

-- only the memory differs
pub returns : goal.returns
returns c = made_to
