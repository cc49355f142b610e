use Rattle.std.proofs.Common.{◌≡◌, ◌+◌, ◌*◌, ◌%◌, ◌^◌, map, take, length}
use Rattle.std.specs.List.{range_with_len}
use Rattle.q_base.specs.Positions.{position}
use Rattle.q_base.proofs.positions.steps_from.Given as goal

abbrev pub invariant-loop-i : goal.invariant-loop-i
invariant-loop-i l = record {
  sum : l.at ≡ (l.first + l.i * l.step) % 2 ^ 64;
  long : length l.values ≡ 16;
  made : take l.i l.values ≡ map (position l.log2_bits l.first l.step) (range_with_len 0 l.i);
}
