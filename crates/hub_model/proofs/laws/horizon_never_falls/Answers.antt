use Rattle.hub_model.proofs.LaterStates.{horizon-never_falls}
use Rattle.hub_model.proofs.laws.horizon_never_falls.Goals as goal

-- a longer legal history has a later state
pub returns : goal.returns
returns c = horizon-never_falls
