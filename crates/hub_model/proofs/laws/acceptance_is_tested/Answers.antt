use Rattle.hub_model.proofs.Accepted.{accepted-Decides}
use Rattle.hub_model.proofs.laws.acceptance_is_tested.Goals as goal

-- each part of the test decides its part
pub returns : goal.returns
returns c = λ g s change condition. accepted-Decides g s change condition
