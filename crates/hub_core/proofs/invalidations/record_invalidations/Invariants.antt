-- the invalidations so far have their memory
use Rattle.std.proofs.Common.{◌≡◌, ◌≤◌, All}
use Rattle.hub_core.specs.CopiesView.{IsInvalidationReserved}
use Rattle.hub_core.specs.Invalidations.{AreRecordInvalidationsOf}
use Rattle.hub_core.proofs.invalidations.record_invalidations.Given as goal

abbrev pub invariant-loop-commit : goal.invariant-loop-commit
invariant-loop-commit l = record {
  invalidations : AreRecordInvalidationsOf l.book.journal l.initial.front l.commit l.invalidations.items;
  reserved : All (λ m. IsInvalidationReserved l.copies m.key) l.invalidations.items;
  within : All (λ m. m.commit ≤ l.commit) l.invalidations.items;
  rest : l.copies ≡ record l.initial.copies { invalidatable = l.copies.invalidatable };
}
