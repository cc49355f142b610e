use Rattle.query_core.proofs.ChangeLemmas.{matches_changed}
use Rattle.query_core.proofs.laws.matches_follow_a_change.Goals as goal

pub returns : goal.returns
returns c = matches_changed
