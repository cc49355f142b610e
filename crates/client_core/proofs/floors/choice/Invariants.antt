use Rattle.std.proofs.Common.{◌≡◌, ℕ, ◌+◌, ◌<◌, ◌≤◌, true, length}
use Rattle.client_core.specs.Table.{row_at, set_size}
use Rattle.client_core.proofs.floors.choice.Given as goal

-- the rows of the set before this one are taken, and none of them has a lesser commit
abbrev pub invariant-loop-i : goal.invariant-loop-i
invariant-loop-i l = record {
  begins : l.first ≤ l.least;
  ends : l.least < l.first + set_size (length l.rows);
  taken : (j : ℕ) → l.first ≤ j → j < l.i → (row_at l.rows j).is_taken ≡ true;
  least : (j : ℕ) → l.first ≤ j → j < l.i → (row_at l.rows l.least).commit ≤ (row_at l.rows j).commit;
}
