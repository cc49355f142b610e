use Rattle.hub_model.proofs.Covered.{outdated_until-commit, outdated_until-changed}
use Rattle.hub_model.proofs.laws.matches_record_commit_by_commit.Goals as goal

-- a change outdates the copies before it
pub returns-clause-raised : goal.returns-clause-raised
returns-clause-raised c = outdated_until-commit

pub returns-clause-changed : goal.returns-clause-changed
returns-clause-changed c = outdated_until-changed
