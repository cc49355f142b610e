-- each turn takes an idle key with what is kept of it, and nothing else changes
use Rattle.std.proofs.Common.{◌≡◌, ◌&&◌, not, true, length}
use Rattle.query_normal.specs.declared.key.KeyShape.{KeyShape}
use Rattle.hub_core.specs.ActiveQueries.{StayKept}
use Rattle.hub_core.specs.CopiesView.{is_idle}
use Rattle.hub_core.specs.Lifetimes.{Drops}
use Rattle.hub_core.proofs.passing.drop_idle.Given as goal

abbrev pub invariant-loop : goal.invariant-loop
invariant-loop l = record {
  kept : StayKept l.initial.copies l.initial.queries.entries l.copies l.queries.entries;
  dropped : Drops (λ key. is_idle l.initial.copies key && not (is_idle l.copies key)) l.initial.life l.life;
  idle : (key : KeyShape) → is_idle l.copies key ≡ true → is_idle l.initial.copies key ≡ true;
  rest : l.copies ≡ record l.initial.copies { idle = l.copies.idle };
}

abbrev pub decreases-loop : goal.decreases-loop
decreases-loop l = length l.copies.idle
