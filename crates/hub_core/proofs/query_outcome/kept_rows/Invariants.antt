-- the rows so far
use Rattle.std.proofs.Common.{◌≡◌, map, take}
use Rattle.result_kinds.specs.Results.{printed_row}
use Rattle.hub_core.proofs.query_outcome.kept_rows.Given as goal

abbrev pub invariant-loop-row : goal.invariant-loop-row
invariant-loop-row l = l.kept.items ≡ map printed_row (take l.row-index l.rows)
