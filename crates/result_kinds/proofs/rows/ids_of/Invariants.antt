use Rattle.std.proofs.Common.{◌≡◌, take}
use Rattle.result_kinds.specs.Results.{ids_of}
use Rattle.result_kinds.proofs.rows.ids_of.Given as goal

abbrev pub invariant-loop-row : goal.invariant-loop-row
invariant-loop-row l = l.ids.items ≡ ids_of (take l.row-index l.rows)
