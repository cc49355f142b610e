use Rattle.hub_model.proofs.Histories.{state_of-none, legal-none}
use Rattle.hub_model.proofs.laws.no_entry_is_legal.Goals as goal

-- nothing is asked
pub returns-clause-state : goal.returns-clause-state
returns-clause-state c = state_of-none

pub returns-clause-legal : goal.returns-clause-legal
returns-clause-legal c = legal-none
