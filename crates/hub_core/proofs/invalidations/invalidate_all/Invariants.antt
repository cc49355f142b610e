-- the keys so far are invalidated, and the others still can be
use Rattle.std.proofs.Common.{◌≡◌, max, take}
use Rattle.query_normal.specs.declared.key.KeyShape.{KeyShape}
use Rattle.hub_core.specs.CopiesView.{CanInvalidate, until_in}
use Rattle.hub_core.specs.Invalidations.{invalidated_until}
use Rattle.hub_core.proofs.invalidations.invalidate_all.Given as goal

abbrev pub invariant-loop-invalidation : goal.invariant-loop-invalidation
invariant-loop-invalidation l = record {
  outdated : (key : KeyShape) → until_in l.copies.outdated key ≡ max (until_in l.initial.copies.outdated key) (invalidated_until l.initial.copies.copies (take l.invalidation-index l.invalidations) key);
  reserved : (key : KeyShape) → CanInvalidate l.initial.copies key → CanInvalidate l.copies key;
  rest : l.copies ≡ record l.initial.copies { outdated = l.copies.outdated; invalidatable = l.copies.invalidatable };
}
