use Rattle.hub_model.proofs.Unmatched.{helped_write-follows, admitted-follows, history-goes_on}
use Rattle.hub_model.proofs.laws.helped_writes_may_follow.Goals as goal

-- the match leaves no commit after the front
pub returns-clause-write : goal.returns-clause-write
returns-clause-write c = helped_write-follows

-- nothing else adds a commit
pub returns-clause-other : goal.returns-clause-other
returns-clause-other c = admitted-follows

-- a legal history has such a state
pub returns-clause-history : goal.returns-clause-history
returns-clause-history c = history-goes_on
