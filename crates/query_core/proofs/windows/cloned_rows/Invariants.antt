use Rattle.std.proofs.Common.{◌≡◌, map, take}
use Rattle.query_core.specs.Candidates.{row_of}
use Rattle.query_core.proofs.windows.cloned_rows.Given as goal

abbrev pub invariant-loop-candidate : goal.invariant-loop-candidate
invariant-loop-candidate l = l.rows.items ≡ map row_of (take l.candidate-index l.kept)
