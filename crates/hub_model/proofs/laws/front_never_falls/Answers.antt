use Rattle.hub_model.proofs.LaterStates.{front-never_falls}
use Rattle.hub_model.proofs.laws.front_never_falls.Goals as goal

-- a longer legal history has a later state
pub returns : goal.returns
returns c = front-never_falls
