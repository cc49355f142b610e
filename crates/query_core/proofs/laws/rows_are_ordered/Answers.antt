use Rattle.query_core.proofs.RowOrder.{rows_cmp_total}
use Rattle.query_core.proofs.laws.rows_are_ordered.Goals as goal

pub returns : goal.returns
returns c = rows_cmp_total
