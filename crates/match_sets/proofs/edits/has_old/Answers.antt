use Rattle.std.proofs.Common.{length, ap, arith}
use Rattle.match_sets.proofs.Positions.{none_left}
use Rattle.match_sets.proofs.edits.has_old.Goals as goal

-- there was none
pub returns-in-None : goal.returns-in-None
returns-in-None c = λ ready. (let n = ap length (none_left c.args.order.now c.args.row.now c.args.before c.args.rows.now c.in-None.is ready) in omega (arith, n))
