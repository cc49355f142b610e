use Rattle.hub_model.proofs.Histories.{state_of-whole, state_of-append, legal-parts, legal-append}
use Rattle.hub_model.proofs.laws.more_entries.Goals as goal

-- a fold goes on from its state
pub returns-clause-whole : goal.returns-clause-whole
returns-clause-whole c = state_of-whole

pub returns-clause-state : goal.returns-clause-state
returns-clause-state c = state_of-append

pub returns-clause-legal : goal.returns-clause-legal
returns-clause-legal c = λ g history more. (legal-parts g history more, λ h. legal-append g history more h.0 h.1)
