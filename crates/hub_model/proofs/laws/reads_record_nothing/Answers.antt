use Rattle.hub_model.proofs.Issues.{outdated_until-read}
use Rattle.hub_model.proofs.laws.reads_record_nothing.Goals as goal

-- the copy is not outdated
pub returns : goal.returns
returns c = outdated_until-read
