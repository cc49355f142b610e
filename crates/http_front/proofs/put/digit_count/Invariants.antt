-- the digits that were counted are those that are left out
use Rattle.std.proofs.Common.{◌≡◌, ◌+◌, ◌≤◌, length, decimal}
use Rattle.http_front.proofs.put.digit_count.Given as goal

abbrev pub invariant-loop-left : goal.invariant-loop-left
invariant-loop-left l = record {
  same : length (decimal l.fn.number) ≡ l.count + length (decimal l.left);
  few : length (decimal l.fn.number) ≤ 20;
}

abbrev pub decreases-loop-left : goal.decreases-loop-left
decreases-loop-left l = l.left
