use Rattle.hub_model.proofs.Recorded.{bits-permute, length-permute}
use Rattle.hub_model.proofs.laws.bits_in_any_order.Goals as goal

-- a sum does not depend on the order
pub returns-clause-bits : goal.returns-clause-bits
returns-clause-bits c = bits-permute

pub returns-clause-number : goal.returns-clause-number
returns-clause-number c = length-permute
