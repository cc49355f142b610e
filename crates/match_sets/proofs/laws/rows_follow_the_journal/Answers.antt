use Rattle.match_sets.proofs.Journals.{follows}
use Rattle.match_sets.proofs.laws.rows_follow_the_journal.Goals as goal

-- by the documents of both commits
pub returns : goal.returns
returns c = follows c.collections_have_the_documents_of_their_records.ensures
