use Rattle.hub_model.proofs.LaterStates.{later_longer}
use Rattle.hub_model.proofs.laws.longer_histories_are_later.Goals as goal

-- each entry leaves a later state
pub returns : goal.returns
returns c = later_longer
