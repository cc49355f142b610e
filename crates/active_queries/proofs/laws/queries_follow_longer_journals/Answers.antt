use Rattle.active_queries.proofs.FollowLemmas.{follows-longer, all-longer}
use Rattle.active_queries.proofs.laws.queries_follow_longer_journals.Goals as goal

pub returns-clause-one : goal.returns-clause-one
returns-clause-one c = follows-longer c.sets_stand_for_longer_journals.ensures c.older_commits_stay.ensures.documents c.result_of_prefix.ensures

pub returns-clause-all : goal.returns-clause-all
returns-clause-all c = all-longer c.sets_stand_for_longer_journals.ensures c.older_commits_stay.ensures.documents c.result_of_prefix.ensures
