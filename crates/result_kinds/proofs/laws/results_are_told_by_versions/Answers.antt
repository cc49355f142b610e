use Rattle.result_kinds.proofs.SameLemmas.{results_told}
use Rattle.result_kinds.proofs.laws.results_are_told_by_versions.Goals as goal

pub returns : goal.returns
returns c = results_told
