use Rattle.std.proofs.Common.{◌≡◌, map, take}
use Rattle.result_kinds.specs.Results.{printed_row}
use Rattle.result_kinds.proofs.rows.printed_rows.Given as goal

abbrev pub invariant-loop-row : goal.invariant-loop-row
invariant-loop-row l = l.printed.items ≡ map printed_row (take l.row-index l.found)
