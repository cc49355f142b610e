use Rattle.hub_model.proofs.Recorded.{drop-records_nothing}
use Rattle.hub_model.proofs.laws.drop_records_nothing.Goals as goal

-- the record does not look at the horizon
pub returns : goal.returns
returns c = drop-records_nothing
