use Rattle.hub_model.proofs.Recorded.{record-permutes, active-permutes}
use Rattle.hub_model.proofs.laws.keys_in_any_order.Goals as goal

-- lists of the same keys, each once, are permutations of each other
pub returns-clause-recorded : goal.returns-clause-recorded
returns-clause-recorded c = record-permutes

pub returns-clause-active : goal.returns-clause-active
returns-clause-active c = active-permutes
