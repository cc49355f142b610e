use Rattle.std.proofs.Common.{◌≡◌, drop}
use Rattle.query_core.specs.Window.{rows_cmp}
use Rattle.query_core.proofs.compare.compare_rows.Given as goal

abbrev pub invariant-loop-path : goal.invariant-loop-path
invariant-loop-path l = rows_cmp l.path-items l.a l.b ≡ rows_cmp (drop l.path-index l.path-items) l.a l.b
