-- a byte string has one split, and expects the same
use Rattle.dialogue.proofs.EndLemmas.{one_end}
use Rattle.dialogue.proofs.laws.one_end_is_determined.Goals as goal

pub returns : goal.returns
returns c = one_end c.one_split_is_there.ensures c.one_expectation_holds.ensures
