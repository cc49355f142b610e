use Rattle.std.proofs.Common.{ℕ, ◌<◌, ◌≤◌}
use Rattle.client_core.specs.Table.{IsRowOf}
use Rattle.client_core.proofs.floors.find.Given as goal

-- no row of the set before this one is the mark's
abbrev pub invariant-loop-i : goal.invariant-loop-i
invariant-loop-i l = (j : ℕ) → l.first ≤ j → j < l.i → IsRowOf l.rows l.mark j → ⊥
