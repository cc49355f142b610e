use Rattle.hub_model.proofs.Recorded.{active-from_test, test-from_active, active-listed, distinct-active}
use Rattle.hub_model.proofs.laws.active_keys_are_listed.Goals as goal

-- an element passes exactly where the test of the list is true
pub returns-clause-tested : goal.returns-clause-tested
returns-clause-tested c = λ s key. (active-from_test s key, test-from_active s key)

pub returns-clause-listed : goal.returns-clause-listed
returns-clause-listed c = active-listed

pub returns-clause-once : goal.returns-clause-once
returns-clause-once c = distinct-active
