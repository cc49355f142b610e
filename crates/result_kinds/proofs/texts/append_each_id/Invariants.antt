use Rattle.std.proofs.Common.{◌≡◌, ◌≤◌, ◌+◌, ◌++◌, take, drop, codes, length}
use Rattle.std.specs.Prelude.{vec_len, vec_capacity}
use Rattle.std.specs.List.{flat_map}
use Rattle.result_kinds.specs.Results.{id_text}
use Rattle.result_kinds.proofs.texts.append_each_id.Given as goal

-- what is written, and that there is room for what is left
abbrev pub invariant-loop-id : goal.invariant-loop-id
invariant-loop-id l = record {
  items : l.buffer.items ≡ l.initial.buffer.items ++ flat_map (λ y. codes "," ++ id_text y) (take l.id-index l.rest);
  len : vec_len l.buffer + length (flat_map (λ y. codes "," ++ id_text y) (drop l.id-index l.rest)) ≡ vec_len l.initial.buffer + length (flat_map (λ y. codes "," ++ id_text y) l.rest);
  room : vec_len l.buffer + length (flat_map (λ y. codes "," ++ id_text y) (drop l.id-index l.rest)) ≤ vec_capacity l.buffer;
  capacity : vec_capacity l.initial.buffer ≤ vec_capacity l.buffer;
}
