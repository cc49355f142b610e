use Rattle.std.proofs.Common.{◌∙◌}
use Rattle.match_sets.proofs.Positions.{placed_found}
use Rattle.match_sets.proofs.edits.put_row.Goals as goal

-- the position is that of the order
pub returns-clause-placed : goal.returns-clause-placed
returns-clause-placed c = λ up.
    c.in-Ok.ensures.items
    ∙ placed_found c.args.order.now c.args.new c.position_for-position.result c.as_slice.result.now c.args.rows.now.items c.as_slice.ensures.value (c.position_for-position.ensures.within, c.position_for-position.ensures.point) up
