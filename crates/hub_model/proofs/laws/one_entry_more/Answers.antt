use Rattle.std.proofs.Common.{[], ◌∷◌}
use Rattle.hub_model.proofs.Histories.{state_of-push, legal-push, legal-parts}
use Rattle.hub_model.proofs.laws.one_entry_more.Goals as goal

-- a fold takes the last entry last
pub returns-clause-state : goal.returns-clause-state
returns-clause-state c = state_of-push

pub returns-clause-legal : goal.returns-clause-legal
returns-clause-legal c = λ g history e. ((λ h. (let parts = legal-parts g history (e ∷ []) h in (parts.0, parts.1.0))), λ h. legal-push g history e h.0 h.1)
