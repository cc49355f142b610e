use Rattle.std.proofs.Common.{◌≡◌, map, take}
use Rattle.std.specs.Arc.{arc_value}
use Rattle.std.specs.List.{flat_map}
use Rattle.bucket_store.proofs.collection.Collection.docs.Given as goal

abbrev pub invariant-loop-bucket : goal.invariant-loop-bucket
invariant-loop-bucket l = l.rows.items ≡ flat_map (λ rows. rows) (map arc_value (take l.bucket-index l.bucket-items))
