use Rattle.std.proofs.Common.{◌-◌, length, take}
use Rattle.http_message.specs.Input.{Grows}
use Rattle.http_message.specs.Line.{IsOpenIn, IsPassed}
use Rattle.http_message.proofs.line.find_text.Given as goal

abbrev pub invariant-loop-found : goal.invariant-loop-found
invariant-loop-found g l = record {
  grows : Grows (g.S.Source.at l.fn.source) (g.S.Source.at l.source) (IsOpenIn l.sought l.capacity) l.fn.input l.input;
  passed : IsPassed l.sought (take l.capacity l.input) l.passed;
}

abbrev pub decreases-loop-found : goal.decreases-loop-found
decreases-loop-found g l = l.capacity - length l.input
