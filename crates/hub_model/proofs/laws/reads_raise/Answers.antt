use Rattle.hub_model.proofs.Issues.{until-read}
use Rattle.hub_model.proofs.laws.reads_raise.Goals as goal

-- the greatest of a list with one more is the greater of both
pub returns : goal.returns
returns c = until-read
