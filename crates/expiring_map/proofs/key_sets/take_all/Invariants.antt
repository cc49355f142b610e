-- the spare capacity only grows, and each turn removes a key
use Rattle.std.proofs.Common.{◌≤◌}
use Rattle.indexmap.specs.IndexSet.{spare, index_set_len}
use Rattle.expiring_map.proofs.key_sets.take_all.Given as goal

abbrev pub invariant-loop : goal.invariant-loop
invariant-loop l = spare l.initial.left ≤ spare l.left

abbrev pub decreases-loop : goal.decreases-loop
decreases-loop l = index_set_len l.left
