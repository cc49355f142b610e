use Rattle.std.proofs.Common.{◌≡◌, map, replicate, []}
use Rattle.std.specs.Arc.{arc_value}
use Rattle.bucket_store.proofs.collection.Collection.new.Given as goal

abbrev pub invariant-loop-made : goal.invariant-loop-made
invariant-loop-made l = map arc_value l.buckets.items ≡ replicate l._made []
