use Rattle.std.proofs.Common.{◌≡◌, subst}
use Rattle.commit_book.specs.Documents.{docs}
use Rattle.query_core.specs.declared.query.Query.{Query}
use Rattle.query_core.specs.Window.{window}
use Rattle.match_sets.specs.Contents.{window_of}
use Rattle.active_queries.proofs.laws.rows_are_those_of_the_last_commit_seen.Goals as goal

-- each commit since that of the set passes by
pub returns : goal.returns
returns c = λ kind query a journal follows.
    subst (λ (q : Query). window_of a.set ≡ window q (docs journal a.seen q.collection)) follows.query_is
    (c.windows_stay_while_commits_pass_by.ensures a.set journal a.seen follows.stands follows.forward follows.within follows.passed)
