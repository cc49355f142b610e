use Rattle.client_core.proofs.SetLemmas.{few_fit}
use Rattle.client_core.proofs.floors.pasts_of_few_keys_have_room.Goals as goal

pub returns : goal.returns
returns c = λ rows past few. few_fit rows past few
