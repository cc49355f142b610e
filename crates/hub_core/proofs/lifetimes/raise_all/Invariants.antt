-- the last changes of the keys so far are raised
use Rattle.std.proofs.Common.{◌≡◌, max, take, if◌then◌else◌}
use Rattle.query_normal.specs.declared.key.KeyShape.{KeyShape}
use Rattle.purge_list.specs.LastChanges.{change_of, is_known}
use Rattle.hub_core.specs.Invalidations.{raised_by}
use Rattle.hub_core.proofs.lifetimes.raise_all.Given as goal

abbrev pub invariant-loop-invalidation : goal.invariant-loop-invalidation
invariant-loop-invalidation l = record {
  changes : (key : KeyShape) → change_of l.changes key ≡ (if is_known l.initial.changes key then max (change_of l.initial.changes key) (raised_by key (take l.invalidation-index l.invalidations)) else change_of l.initial.changes key);
  known : (key : KeyShape) → is_known l.changes key ≡ is_known l.initial.changes key;
}
