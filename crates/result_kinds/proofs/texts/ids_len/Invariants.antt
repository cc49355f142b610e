use Rattle.std.proofs.Common.{◌≡◌, ◌≤◌, ◌+◌, ◌-◌, ◌^◌, ◌++◌, drop, codes, length, min}
use Rattle.std.specs.List.{flat_map}
use Rattle.result_kinds.specs.Results.{id_text}
use Rattle.result_kinds.proofs.texts.ids_len.Given as goal

-- with what is left it stays the same, up to the greatest number
abbrev pub invariant-loop-id : goal.invariant-loop-id
invariant-loop-id l = record {
  same : min (l.len + length (flat_map (λ y. codes "," ++ id_text y) (drop l.id-index l.rest))) (2 ^ 64 - 1) ≡ min (l.initial.len + length (flat_map (λ y. codes "," ++ id_text y) l.rest)) (2 ^ 64 - 1);
  fits : l.len ≤ 2 ^ 64 - 1;
}
