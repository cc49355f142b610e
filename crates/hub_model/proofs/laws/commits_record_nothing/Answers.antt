use Rattle.hub_model.proofs.Recorded.{outdated_until-longer}
use Rattle.hub_model.proofs.laws.commits_record_nothing.Goals as goal

-- the front covers commits that were there before
pub returns : goal.returns
returns c = outdated_until-longer
