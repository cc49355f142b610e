use Rattle.hub_model.proofs.Histories.{horizon-within}
use Rattle.hub_model.proofs.laws.horizon_is_within.Goals as goal

-- a drop goes up to the front at most, and the front never falls
pub returns : goal.returns
returns c = horizon-within
