-- each answer adds entries at their positions
use Rattle.quaestor_server.proofs.WellLemmas.{own_are_in_place}
use Rattle.quaestor_server.proofs.laws.own_entries_are_in_place.Goals as goal

pub returns : goal.returns
returns c = own_are_in_place
