use Rattle.hub_model.proofs.Histories.{front-last}
use Rattle.hub_model.proofs.laws.front_is_last.Goals as goal

-- a match alone moves the front
pub returns : goal.returns
returns c = front-last
