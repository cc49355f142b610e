use Rattle.query_normal.proofs.NormalQueries.{query_twice}
use Rattle.query_normal.proofs.laws.normal_forms_stay.Goals as goal

pub returns : goal.returns
returns c = query_twice
