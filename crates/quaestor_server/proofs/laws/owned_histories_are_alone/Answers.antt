-- each entry has one number
use Rattle.quaestor_server.proofs.DeterminedLemmas.{owned_alone}
use Rattle.quaestor_server.proofs.laws.owned_histories_are_alone.Goals as goal

pub returns : goal.returns
returns c = owned_alone
