use Rattle.hub_model.proofs.Untils.{recorded_until}
use Rattle.hub_model.proofs.laws.recorded_until.Goals as goal

-- the until of an unexpired copy is above the clock
pub returns : goal.returns
returns c = recorded_until
