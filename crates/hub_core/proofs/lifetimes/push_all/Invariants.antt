-- the keys so far are numbered, and there is room for those that are left
use Rattle.std.proofs.Common.{◌≡◌, ◌≤◌, ◌++◌, length, map}
use Rattle.std.specs.Vec.Iter.{into_iter_items, into_iter_len}
use Rattle.query_normal.specs.Keys.{key_text}
use Rattle.hub_core.proofs.lifetimes.push_all.Given as goal

abbrev pub invariant-loop-key : goal.invariant-loop-key
invariant-loop-key l = record {
  done : l.purges.texts ++ map key_text (into_iter_items l.key-iterator) ≡ l.initial.purges.texts ++ map key_text l.fn.keys.items;
  room : length (into_iter_items l.key-iterator) ≤ l.purges.spare;
  length : into_iter_len l.key-iterator ≡ length (into_iter_items l.key-iterator);
}
