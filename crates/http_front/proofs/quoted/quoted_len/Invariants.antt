use Rattle.std.proofs.Common.{◌≡◌, ◌≤◌, ◌+◌, ◌-◌, ◌^◌, drop, length}
use Rattle.json.specs.Print.{escape}
use Rattle.http_front.specs.Bodies.{up_to_greatest}
use Rattle.http_front.proofs.quoted.quoted_len.Given as goal

-- with what is left it stays the same, up to the greatest number
abbrev pub invariant-loop-byte : goal.invariant-loop-byte
invariant-loop-byte l = record {
  same : up_to_greatest (l.len + length (escape (drop l.byte-index l.text))) ≡ up_to_greatest (2 + length (escape l.text));
  fits : l.len ≤ 2 ^ 64 - 1;
}
