use Rattle.hub_model.proofs.Known.{known-record}
use Rattle.hub_model.proofs.laws.records_are_known_since_their_version.Goals as goal

-- a document is there from its commit on
pub returns : goal.returns
returns c = λ journal collection id horizon at found tags is. known-record journal collection id horizon at found is tags
