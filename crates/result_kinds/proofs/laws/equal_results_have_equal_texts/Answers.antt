use Rattle.result_kinds.proofs.SameLemmas.{texts_equal}
use Rattle.result_kinds.proofs.laws.equal_results_have_equal_texts.Goals as goal

pub returns : goal.returns
returns c = texts_equal
