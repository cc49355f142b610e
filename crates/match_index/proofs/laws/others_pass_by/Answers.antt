use Rattle.match_index.proofs.CandidateLemmas.{others_pass, other_keys_pass}
use Rattle.match_index.proofs.laws.others_pass_by.Goals as goal

-- neither document is found
pub returns-clause-queries : goal.returns-clause-queries
returns-clause-queries c = others_pass

pub returns-clause-keys : goal.returns-clause-keys
returns-clause-keys c = other_keys_pass
