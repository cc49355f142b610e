use Rattle.match_sets.proofs.LawLemmas.{stands_longer}
use Rattle.match_sets.proofs.laws.sets_stand_for_longer_journals.Goals as goal

-- the documents at its commit stay
pub returns : goal.returns
returns c = stands_longer c.older_commits_stay.ensures.collections
