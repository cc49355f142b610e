-- the active keys so far have their entries
use Rattle.std.proofs.Common.{◌≡◌, ◌||◌, true, take}
use Rattle.query_normal.specs.declared.key.KeyShape.{KeyShape}
use Rattle.issued_expiries.specs.Copies.{is_active}
use Rattle.purge_list.specs.LastChanges.{change_of, is_known}
use Rattle.hub_core.specs.Invalidations.{HaveEntries}
use Rattle.hub_core.proofs.purging.reserve_changes.Given as goal

abbrev pub invariant-loop-invalidation : goal.invariant-loop-invalidation
invariant-loop-invalidation l = record {
  known : HaveEntries l.copies.copies l.changes (take l.invalidation-index l.invalidations);
  changes : (key : KeyShape) → change_of l.changes key ≡ change_of l.initial.changes key;
  active : (key : KeyShape) → is_known l.changes key ≡ true → (is_known l.initial.changes key || is_active l.copies.copies key) ≡ true;
}
