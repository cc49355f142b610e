-- a commit whose number is not above the stored ones is among the first frames
use Rattle.shared_log.proofs.NoteLemmas.{keeps_stored}
use Rattle.shared_log.proofs.laws.stored_commits_have_their_numbers.Goals as goal

pub returns : goal.returns
returns c = keeps_stored
