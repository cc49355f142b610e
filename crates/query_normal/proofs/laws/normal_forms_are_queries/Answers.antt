use Rattle.query_normal.proofs.NormalQueries.{query_stays}
use Rattle.query_normal.proofs.laws.normal_forms_are_queries.Goals as goal

pub returns : goal.returns
returns c = query_stays
