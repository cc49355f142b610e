use Rattle.hub_model.proofs.Queries.{told_by_versions}
use Rattle.hub_model.proofs.laws.query_results_are_told_by_versions.Goals as goal

-- a version is of one document
pub returns : goal.returns
returns c = told_by_versions
