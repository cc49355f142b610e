use Rattle.hub_model.proofs.Results.{outdated-from_test, test-from_outdated}
use Rattle.hub_model.proofs.laws.outdated_is_tested.Goals as goal

-- the test looks at each commit in turn
pub returns : goal.returns
returns c = λ key commit journal front. (outdated-from_test key commit journal front, test-from_outdated key commit journal front)
