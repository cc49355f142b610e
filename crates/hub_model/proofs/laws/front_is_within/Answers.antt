use Rattle.hub_model.proofs.Histories.{front-within}
use Rattle.hub_model.proofs.laws.front_is_within.Goals as goal

-- a match is of commits that are there, and none goes away
pub returns : goal.returns
returns c = front-within
