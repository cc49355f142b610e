use Rattle.std.proofs.Common.{◌≡◌, ◌≤◌, true, false, IfSome, length, take}
use Rattle.std.specs.List.{list_any}
use Rattle.std.specs.Map.{lookup}
use Rattle.indexmap.specs.IndexMap.{spare}
use Rattle.query_normal.specs.declared.key.KeyShape.{KeyShape}
use Rattle.query_normal.specs.Keys.{same_key}
use Rattle.active_queries.specs.Following.{AreAbove}
use Rattle.active_queries.specs.Queries.{all_forgotten, has_changed}
use Rattle.active_queries.proofs.followers.forget_each.Given as goal

-- the queries of the keys so far have forgotten
abbrev pub invariant-loop-index : goal.invariant-loop-index
invariant-loop-index l = record {
  same : all_forgotten l.to l.held.entries ≡ all_forgotten l.to l.initial.held.entries;
  fewer : (key : KeyShape) → has_changed (lookup (same_key key) l.initial.held.entries) ≡ false → has_changed (lookup (same_key key) l.held.entries) ≡ false;
  above : (key : KeyShape) → list_any (same_key key) (take l.index l.keys) ≡ true → IfSome (lookup (same_key key) l.held.entries) (λ a. AreAbove l.to a.changed);
  end : l.index-end ≡ length l.keys;
  spare : spare l.initial.held ≤ spare l.held;
}
