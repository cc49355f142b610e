-- the keys that the invalidations so far purge
use Rattle.std.proofs.Common.{◌≡◌, take}
use Rattle.std.specs.List.{list_any}
use Rattle.query_normal.specs.Keys.{same_key}
use Rattle.query_normal.specs.declared.key.KeyShape.{KeyShape}
use Rattle.hub_core.specs.Invalidations.{purges_at}
use Rattle.hub_core.proofs.purging.purged_keys.Given as goal

abbrev pub invariant-loop-invalidation : goal.invariant-loop-invalidation
invariant-loop-invalidation l = (key : KeyShape) → list_any (same_key key) l.found.keys ≡ list_any (purges_at l.copies.copies l.changes l.second key) (take l.invalidation-index l.invalidations)
