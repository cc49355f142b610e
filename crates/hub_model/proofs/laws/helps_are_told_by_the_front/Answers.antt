use Rattle.hub_model.proofs.Unmatched.{helps-told}
use Rattle.hub_model.proofs.laws.helps_are_told_by_the_front.Goals as goal

-- a match raises the front, and a write leaves it
pub returns : goal.returns
returns c = helps-told
