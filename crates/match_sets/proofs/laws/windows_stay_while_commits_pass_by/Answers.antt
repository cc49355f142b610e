use Rattle.match_sets.proofs.LawLemmas.{window_later}
use Rattle.match_sets.proofs.laws.windows_stay_while_commits_pass_by.Goals as goal

-- by the commits in turn
pub returns : goal.returns
returns c = window_later c.rows_follow_the_journal.ensures
