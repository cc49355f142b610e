use Rattle.std.proofs.Common.{suc}
use Rattle.commit_book.specs.Documents.{docs}
use Rattle.match_sets.proofs.Journals.{passed}
use Rattle.match_sets.proofs.LawLemmas.{same_window}
use Rattle.match_sets.proofs.laws.windows_stay_where_a_commit_passes_by.Goals as goal

-- since the rows that satisfy stay
pub returns : goal.returns
returns c = λ q journal n change there passes.
    same_window q (docs journal (suc n) q.collection) (docs journal n q.collection) (passed c.rows_follow_the_journal.ensures q journal n change there passes)
