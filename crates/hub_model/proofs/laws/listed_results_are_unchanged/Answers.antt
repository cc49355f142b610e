use Rattle.hub_model.proofs.Accepted.{unchanged-equal}
use Rattle.hub_model.proofs.laws.listed_results_are_unchanged.Goals as goal

-- a document is there from its commit on
pub returns : goal.returns
returns c = unchanged-equal
