use Rattle.match_sets.proofs.Positions.{none_left}
use Rattle.match_sets.proofs.edits.take_out.Goals as goal

-- there was none
pub returns-in-None-clause-without : goal.returns-in-None-clause-without
returns-in-None-clause-without c = λ ready. none_left c.args.order.now c.args.row.now c.args.before c.args.rows.now.items c.in-None.is ready
