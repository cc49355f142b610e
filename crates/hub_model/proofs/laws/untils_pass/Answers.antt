use Rattle.hub_model.proofs.Untils.{until-at_moment}
use Rattle.hub_model.proofs.laws.untils_pass.Goals as goal

-- a copy with the greatest until expires last
pub returns : goal.returns
returns c = until-at_moment
