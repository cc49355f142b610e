use Rattle.std.proofs.Common.{◌≡◌, drop}
use Rattle.query_core.specs.Candidates.{candidates_cmp}
use Rattle.query_core.proofs.windows.compare_candidates.Given as goal

abbrev pub invariant-loop-index : goal.invariant-loop-index
invariant-loop-index l = candidates_cmp l.order 0 l.a l.b ≡ candidates_cmp (drop l.index l.order) l.index l.a l.b
