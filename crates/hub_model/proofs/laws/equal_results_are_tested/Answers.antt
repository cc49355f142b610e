use Rattle.hub_model.proofs.Results.{same_finding-Decides}
use Rattle.hub_model.proofs.laws.equal_results_are_tested.Goals as goal

-- by the parts of the results
pub returns : goal.returns
returns c = same_finding-Decides
