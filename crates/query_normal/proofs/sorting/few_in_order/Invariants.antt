use Rattle.std.proofs.Common.{◌≡◌, length}
use Rattle.std.specs.List.{fold}
use Rattle.std.specs.Vec.Iter.{into_iter_items, into_iter_len}
use Rattle.query_core.specs.Window.{placed, in_order}
use Rattle.query_normal.specs.Normal.{text_cmp}
use Rattle.query_normal.proofs.sorting.few_in_order.Given as goal

abbrev pub invariant-loop-filter : goal.invariant-loop-filter
invariant-loop-filter l = record {
  done : fold (placed text_cmp) l.sorted.items (into_iter_items l.filter-iterator) ≡ in_order text_cmp l.fn.filters.items;
  length : into_iter_len l.filter-iterator ≡ length (into_iter_items l.filter-iterator);
}
