use Rattle.std.proofs.Common.{◌≡◌, ◌≤◌, ◌+◌, ◌-◌, ◌^◌, drop, length}
use Rattle.http_front.specs.Bodies.{keys_behind, up_to_greatest}
use Rattle.http_front.proofs.purges.keys_len.Given as goal

-- with what is left it stays the same, up to the greatest number
abbrev pub invariant-loop-key : goal.invariant-loop-key
invariant-loop-key l = record {
  same : up_to_greatest (l.len + length (keys_behind (drop l.key-index l.rest))) ≡ up_to_greatest (l.initial.len + length (keys_behind l.rest));
  fits : l.len ≤ 2 ^ 64 - 1;
}
