use Rattle.std.proofs.Common.{◌≡◌, ◌++◌, length}
use Rattle.std.specs.Vec.Iter.{into_iter_items, into_iter_len}
use Rattle.std.specs.List.{filter}
use Rattle.query_normal.specs.Normal.{normal_order}
use Rattle.query_normal.proofs.OrderForms.{new_to}
use Rattle.query_normal.proofs.orders.normal_order.Given as goal

abbrev pub invariant-loop-item : goal.invariant-loop-item
invariant-loop-item l = record {
  done : l.kept.items ++ filter (new_to l.kept.items) (normal_order (into_iter_items l.item-iterator)) ≡ normal_order l.fn.order;
  length : into_iter_len l.item-iterator ≡ length (into_iter_items l.item-iterator);
}
