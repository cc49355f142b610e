use Rattle.std.proofs.Common.{sym, ap, ◌∙◌}
use Rattle.std.specs.Ordering.{is_ne}
use Rattle.query_core.specs.Print.{filter_text}
use Rattle.query_normal.proofs.TextOrders.{in_order_of_beginnings}
use Rattle.query_normal.proofs.text_order.compare_texts.Goals as goal

-- the names differ, and the texts begin with them
pub returns-then-is_ne : goal.returns-then-is_ne
returns-then-is_ne c =
    let is = c.first_difference-by_names.ensures in
    let differ = sym (ap is_ne is) ∙ sym c.is_ne.ensures ∙ c.if-is_ne.true in
    is ∙ sym (in_order_of_beginnings _ _ (filter_text c.args.a.now) (filter_text c.args.b.now) c.first_name.ensures c.first_name-2.ensures differ)
