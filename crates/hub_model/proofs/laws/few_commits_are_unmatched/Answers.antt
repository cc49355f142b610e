use Rattle.hub_model.proofs.Unmatched.{few-unmatched}
use Rattle.hub_model.proofs.laws.few_commits_are_unmatched.Goals as goal

-- each entry leaves few
pub returns : goal.returns
returns c = few-unmatched
