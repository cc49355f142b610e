use Rattle.std.proofs.Common.{◌≡◌, ◌++◌, length, map}
use Rattle.std.specs.Vec.Iter.{into_iter_items, into_iter_len}
use Rattle.query_normal.specs.Printed.{filter_of_printed}
use Rattle.query_normal.proofs.sorting.without_texts.Given as goal

abbrev pub invariant-loop-item : goal.invariant-loop-item
invariant-loop-item l = record {
  done : l.all.items ++ map filter_of_printed (into_iter_items l.item-iterator) ≡ map filter_of_printed l.fn.printed.items;
  length : into_iter_len l.item-iterator ≡ length (into_iter_items l.item-iterator);
}
