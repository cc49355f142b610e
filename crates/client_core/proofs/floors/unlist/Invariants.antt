use Rattle.std.proofs.Common.{◌≡◌, ℕ, ◌<◌, ◌≤◌, length}
use Rattle.client_core.specs.Table.{row_at, unlisted}
use Rattle.client_core.proofs.floors.unlist.Given as goal

-- the rows before this one are off the whitelist, and the others as they were
abbrev pub invariant-loop-row : goal.invariant-loop-row
invariant-loop-row l = record {
  long : length l.rows ≡ length l.fn.rows;
  done : (j : ℕ) → j < l.row-index → row_at l.rows j ≡ unlisted (row_at l.fn.rows j);
  rest : (j : ℕ) → l.row-index ≤ j → row_at l.rows j ≡ row_at l.fn.rows j;
}
