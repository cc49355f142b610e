use Rattle.match_sets.proofs.LawLemmas.{stands_same}
use Rattle.match_sets.proofs.laws.sets_that_are_the_same_stand_for_the_same.Goals as goal

-- only the memory differs
pub returns : goal.returns
returns c = stands_same
