use Rattle.hub_model.proofs.Results.{outdated-later}
use Rattle.hub_model.proofs.laws.outdated_stays.Goals as goal

-- the commit that shows it stays
pub returns : goal.returns
returns c = outdated-later
