use Rattle.std.proofs.Common.{suc}
use Rattle.commit_book.specs.CommitRows.{commit_row}
use Rattle.match_index.proofs.laws.windows_of_others_stay.Goals as goal

-- since the commit passes by
pub returns : goal.returns
returns c = λ q journal n change there other.
    c.windows_stay_where_a_commit_passes_by.ensures q journal n change there
    (c.others_pass_by.ensures.queries q change.collection (commit_row journal (suc n) change).before change.document other)
