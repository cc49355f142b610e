use Rattle.std.proofs.Common.{◌≡◌, drop}
use Rattle.std.specs.Cmp.Lexicographic.{pointwise}
use Rattle.result_kinds.specs.Same.{same_id}
use Rattle.result_kinds.proofs.same.same_ids.Given as goal

-- the rows before are the same, so the others decide
abbrev pub invariant-loop-i : goal.invariant-loop-i
invariant-loop-i l = pointwise same_id l.a l.b ≡ pointwise same_id (drop l.i l.a) (drop l.i l.b)
