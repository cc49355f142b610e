use Rattle.std.proofs.Common.{◌≡◌, drop}
use Rattle.query_core.specs.Window.{rows_cmp}
use Rattle.match_sets.proofs.searches.compare_with.Given as goal

abbrev pub invariant-loop-path : goal.invariant-loop-path
invariant-loop-path l = rows_cmp l.path-items l.row (l.id, 0, l.document) ≡ rows_cmp (drop l.path-index l.path-items) l.row (l.id, 0, l.document)
