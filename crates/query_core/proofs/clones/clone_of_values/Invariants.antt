use Rattle.std.proofs.Common.{◌≡◌, take}
use Rattle.query_core.proofs.clones.clone_of_values.Given as goal

abbrev pub invariant-loop-value : goal.invariant-loop-value
invariant-loop-value l = l.clones.items ≡ take l.value-index l.value-items
