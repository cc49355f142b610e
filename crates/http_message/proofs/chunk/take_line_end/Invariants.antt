use Rattle.std.proofs.Common.{◌-◌, ◌<◌, length}
use Rattle.http_message.specs.Input.{Grows}
use Rattle.http_message.proofs.chunk.take_line_end.Given as goal

abbrev pub invariant-loop-input : goal.invariant-loop-input
invariant-loop-input g l =
    Grows (g.S.Source.at l.fn.source) (g.S.Source.at l.source) (λ bytes. length bytes < 2) l.fn.input l.input

abbrev pub decreases-loop-input : goal.decreases-loop-input
decreases-loop-input g l = 2 - length l.input
