use Rattle.hub_model.proofs.Changes.{record-changed}
use Rattle.hub_model.proofs.laws.record_changes_by_its_own_commits.Goals as goal

-- a put has a new version
pub returns : goal.returns
returns c = record-changed
