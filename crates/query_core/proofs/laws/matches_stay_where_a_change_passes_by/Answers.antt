use Rattle.query_core.proofs.ChangeLemmas.{matches_stay}
use Rattle.query_core.proofs.laws.matches_stay_where_a_change_passes_by.Goals as goal

pub returns : goal.returns
returns c = matches_stay
