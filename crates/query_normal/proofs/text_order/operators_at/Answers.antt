use Rattle.std.proofs.Common.{sym, ap, ap₂, ◌∙◌}
use Rattle.std.specs.Ordering.{is_ne}
use Rattle.query_core.specs.Filters.{compared}
use Rattle.query_core.specs.SameLaws.{same_path-Decides}
use Rattle.query_normal.specs.Normal.{text_cmp}
use Rattle.query_normal.specs.TextOrder.{first_difference}
use Rattle.query_normal.proofs.TextOrders.{in_order_of_operators}
use Rattle.query_normal.proofs.text_order.operators_at.Goals as goal

-- the paths are the same, so the operators decide
pub returns-then-eq : goal.returns-then-eq
returns-then-eq c = λ v w d.
    let same = (same_path-Decides c.args.p.now c.args.q.now).0 (sym c.eq.ensures ∙ c.if-eq.true) in
    let is = c.first_difference.ensures ∙ ap₂ first_difference c.op_text.ensures c.op_text-then-eq.ensures in
    is ∙ in_order_of_operators c.args.p.now c.args.x c.args.y v w (sym (ap is_ne is) ∙ d)
    ∙ ap (λ p. text_cmp (compared c.args.p.now c.args.x v) (compared p c.args.y w)) same
