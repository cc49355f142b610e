use Rattle.hub_model.proofs.Recorded.{recorded-from_test, test-from_recorded, record-listed, distinct-record}
use Rattle.hub_model.proofs.laws.recorded_keys_are_listed.Goals as goal

-- an element passes exactly where the test of the list is true
pub returns-clause-tested : goal.returns-clause-tested
returns-clause-tested c = λ s key. (recorded-from_test s key, test-from_recorded s key)

pub returns-clause-listed : goal.returns-clause-listed
returns-clause-listed c = record-listed

pub returns-clause-once : goal.returns-clause-once
returns-clause-once c = distinct-record
