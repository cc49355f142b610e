-- the invalidations by the commits so far
use Rattle.std.proofs.Common.{◌≡◌, ◌≤◌, ℕ, ◌==◌, ◌&&◌, ◌||◌, take, All}
use Rattle.std.specs.List.{list_any}
use Rattle.query_normal.specs.Keys.{same_key}
use Rattle.query_normal.specs.declared.key.KeyShape.{KeyShape}
use Rattle.hub_core.specs.CopiesView.{IsInvalidationReserved}
use Rattle.hub_core.specs.Invalidations.{is_after, is_invalidation}
use Rattle.hub_core.proofs.invalidations.push_changes.Given as goal

abbrev pub invariant-loop-commit : goal.invariant-loop-commit
invariant-loop-commit l = record {
  invalidations : (other : KeyShape) (n : ℕ) → list_any (is_invalidation other n) l.invalidations.items ≡ (list_any (is_invalidation other n) l.initial.invalidations.items || (same_key other l.key && list_any (λ m. is_after l.front l.to m && (m == n)) (take l.commit-index l.changed)));
  reserved : All (λ m. IsInvalidationReserved l.initial.copies m.key) l.initial.invalidations.items → All (λ m. IsInvalidationReserved l.copies m.key) l.invalidations.items;
  within : All (λ m. m.commit ≤ l.to) l.initial.invalidations.items → All (λ m. m.commit ≤ l.to) l.invalidations.items;
  rest : l.copies ≡ record l.initial.copies { invalidatable = l.copies.invalidatable };
}
