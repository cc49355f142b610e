use Rattle.hub_model.proofs.Recorded.{read-outdates_nothing}
use Rattle.hub_model.proofs.laws.read_outdates_nothing.Goals as goal

-- the copy is not of a commit before the front
pub returns : goal.returns
returns c = read-outdates_nothing
