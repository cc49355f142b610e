use Rattle.hub_model.proofs.LaterStates.{legal_beginning}
use Rattle.hub_model.proofs.laws.beginnings_are_legal.Goals as goal

-- each of its entries may follow those before it in the longer one
pub returns : goal.returns
returns c = legal_beginning
