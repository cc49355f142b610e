use Rattle.hub_model.proofs.Untils.{active_until}
use Rattle.hub_model.proofs.laws.active_until.Goals as goal

-- the until of an unexpired copy is above the clock
pub returns : goal.returns
returns c = active_until
