use Rattle.std.proofs.Common.{◌≡◌, drop}
use Rattle.std.specs.Cmp.Lexicographic.{pointwise}
use Rattle.result_kinds.specs.Same.{same_version}
use Rattle.result_kinds.proofs.same.same_versions.Given as goal

-- the rows before are the same, so the others decide
abbrev pub invariant-loop-i : goal.invariant-loop-i
invariant-loop-i l = pointwise same_version l.a l.b ≡ pointwise same_version (drop l.i l.a) (drop l.i l.b)
