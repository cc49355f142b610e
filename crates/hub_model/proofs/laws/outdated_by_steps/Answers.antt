use Rattle.hub_model.proofs.Covered.{outdated-by_steps, steps-outdated}
use Rattle.hub_model.proofs.laws.outdated_by_steps.Goals as goal

-- a sequence differs from an earlier value exactly where it takes a step
pub returns : goal.returns
returns c = λ key commit journal front. (outdated-by_steps key commit journal front, steps-outdated key commit journal front)
