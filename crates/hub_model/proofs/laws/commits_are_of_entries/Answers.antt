use Rattle.hub_model.proofs.Histories.{commits-few}
use Rattle.hub_model.proofs.laws.commits_are_of_entries.Goals as goal

-- an entry adds one at most
pub returns : goal.returns
returns c = commits-few
