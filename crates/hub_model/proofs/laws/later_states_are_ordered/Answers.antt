use Rattle.hub_model.proofs.LaterStates.{later_itself, later_onward}
use Rattle.hub_model.proofs.laws.later_states_are_ordered.Goals as goal

-- nothing came to it
pub returns-clause-itself : goal.returns-clause-itself
returns-clause-itself c = later_itself

-- what came comes behind what came before
pub returns-clause-onward : goal.returns-clause-onward
returns-clause-onward c = later_onward
