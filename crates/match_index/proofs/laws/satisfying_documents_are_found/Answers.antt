use Rattle.match_index.proofs.CandidateLemmas.{found_satisfying}
use Rattle.match_index.proofs.laws.satisfying_documents_are_found.Goals as goal

-- since it satisfies the equality too
pub returns : goal.returns
returns c = found_satisfying
