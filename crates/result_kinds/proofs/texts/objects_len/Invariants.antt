use Rattle.std.proofs.Common.{◌≡◌, ◌≤◌, ◌+◌, ◌-◌, ◌^◌, ◌++◌, drop, codes, length, min}
use Rattle.std.specs.List.{flat_map}
use Rattle.result_kinds.specs.Results.{object_text}
use Rattle.result_kinds.proofs.texts.objects_len.Given as goal

-- with what is left it stays the same, up to the greatest number
abbrev pub invariant-loop-row : goal.invariant-loop-row
invariant-loop-row l = record {
  same : min (l.len + length (flat_map (λ y. codes "," ++ object_text y) (drop l.row-index l.rest))) (2 ^ 64 - 1) ≡ min (l.initial.len + length (flat_map (λ y. codes "," ++ object_text y) l.rest)) (2 ^ 64 - 1);
  fits : l.len ≤ 2 ^ 64 - 1;
}
