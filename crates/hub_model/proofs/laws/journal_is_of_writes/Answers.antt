use Rattle.hub_model.proofs.Accepted.{journal-writes}
use Rattle.hub_model.proofs.laws.journal_is_of_writes.Goals as goal

-- an accepted write alone adds its change
pub returns : goal.returns
returns c = journal-writes
