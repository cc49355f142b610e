use Rattle.std.proofs.Common.{◌≡◌, map, take}
use Rattle.std.specs.Arc.{arc_value}
use Rattle.bucket_store.proofs.collection.CollectionClone.clone.Given as goal

abbrev pub invariant-loop-bucket : goal.invariant-loop-bucket
invariant-loop-bucket l = map arc_value l.buckets.items ≡ map arc_value (take l.bucket-index l.bucket-items)
