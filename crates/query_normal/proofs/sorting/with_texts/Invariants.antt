use Rattle.std.proofs.Common.{◌≡◌, ◌++◌, length, map}
use Rattle.std.specs.Vec.Iter.{into_iter_items, into_iter_len}
use Rattle.query_normal.specs.Printed.{ArePrinted, filter_of_printed}
use Rattle.query_normal.proofs.sorting.with_texts.Given as goal

abbrev pub invariant-loop-filter : goal.invariant-loop-filter
invariant-loop-filter l = record {
  done : map filter_of_printed l.all.items ++ into_iter_items l.filter-iterator ≡ l.fn.filters.items;
  texts : ArePrinted l.all.items;
  length : into_iter_len l.filter-iterator ≡ length (into_iter_items l.filter-iterator);
}
