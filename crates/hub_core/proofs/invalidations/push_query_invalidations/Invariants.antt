-- the invalidations by the queries of the keys so far
use Rattle.std.proofs.Common.{◌≡◌, ◌≤◌, ℕ, ◌||◌, ◌&&◌, length, take, All}
use Rattle.std.specs.List.{list_any}
use Rattle.std.specs.Map.{lookup}
use Rattle.query_normal.specs.Keys.{same_key}
use Rattle.query_normal.specs.declared.key.KeyShape.{KeyShape}
use Rattle.hub_core.specs.CopiesView.{IsInvalidationReserved}
use Rattle.hub_core.specs.Invalidations.{is_invalidation, lists_after}
use Rattle.hub_core.proofs.invalidations.push_query_invalidations.Given as goal

abbrev pub invariant-loop-index : goal.invariant-loop-index
invariant-loop-index l = record {
  invalidations : (key : KeyShape) (n : ℕ) → list_any (is_invalidation key n) l.invalidations.items ≡ (list_any (is_invalidation key n) l.initial.invalidations.items || (list_any (same_key key) (take l.index l.listed) && lists_after l.front l.to n (lookup (same_key key) l.queries.entries)));
  reserved : All (λ m. IsInvalidationReserved l.initial.copies m.key) l.initial.invalidations.items → All (λ m. IsInvalidationReserved l.copies m.key) l.invalidations.items;
  within : All (λ m. m.commit ≤ l.to) l.initial.invalidations.items → All (λ m. m.commit ≤ l.to) l.invalidations.items;
  rest : l.copies ≡ record l.initial.copies { invalidatable = l.copies.invalidatable };
  end : l.index-end ≡ length l.listed;
}
