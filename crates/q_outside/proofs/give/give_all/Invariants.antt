-- the first bytes were given
use Rattle.std.proofs.Common.{◌≤◌, ◌-◌, length, take}
use Rattle.q_outside.specs.Ends.{GaveBytes}
use Rattle.q_outside.proofs.give.give_all.Given as goal

abbrev pub invariant-loop-at : goal.invariant-loop-at
invariant-loop-at g l = record {
  within : l.at ≤ length l.bytes;
  given : GaveBytes (g.K.Sink.at l.initial.sink) (g.K.Sink.at l.sink) (take l.at l.bytes);
}

abbrev pub decreases-loop-at : goal.decreases-loop-at
decreases-loop-at g l = length l.bytes - l.at
