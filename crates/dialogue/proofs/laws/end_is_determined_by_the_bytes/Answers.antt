-- the exchanges are a split of the bytes
use Rattle.dialogue.proofs.EndLemmas.{end_determined}
use Rattle.dialogue.proofs.laws.end_is_determined_by_the_bytes.Goals as goal

pub returns : goal.returns
returns c = end_determined
