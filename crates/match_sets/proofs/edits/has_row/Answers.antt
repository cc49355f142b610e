use Rattle.match_sets.proofs.Positions.{counted_found}
use Rattle.match_sets.proofs.edits.has_row.Goals as goal

-- the row at the position is the one of the id, or there is none
pub returns : goal.returns
returns c = counted_found c.args.order.now c.args.id.now c.args.document.now c.args.rows.now c.position_of-position.result c.is_at.result c.position_of-position.ensures.point c.is_at.ensures.is_at
