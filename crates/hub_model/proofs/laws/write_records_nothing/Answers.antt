use Rattle.hub_model.proofs.Recorded.{write-records_nothing}
use Rattle.hub_model.proofs.laws.write_records_nothing.Goals as goal

-- the front covers commits that were there before
pub returns : goal.returns
returns c = write-records_nothing
