-- each commit has one in its place
use Rattle.store_base.proofs.DocumentLemmas.{length-expanded}
use Rattle.store_base.proofs.laws.a_base_has_the_commits_of_its_horizon.Goals as goal

pub returns : goal.returns
returns c = length-expanded
