use Rattle.std.proofs.Common.{sym, ◌∙◌, arith}
use Rattle.query_normal.proofs.TextOrders.{none_differ}
use Rattle.query_normal.proofs.text_order.first_difference.Goals as goal

-- no bytes differed
pub returns : goal.returns
returns c = sym (none_differ c.loop-index.index c.args.a.now c.args.b.now (omega arith)) ∙ sym c.loop-index.invariant
