use Rattle.hub_model.proofs.Histories.{horizon-last}
use Rattle.hub_model.proofs.laws.horizon_is_last.Goals as goal

-- a drop alone moves the horizon
pub returns : goal.returns
returns c = horizon-last
