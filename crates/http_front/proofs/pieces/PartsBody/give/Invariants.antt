use Rattle.std.proofs.Common.{take}
use Rattle.q_outside.specs.Ends.{GaveBytes}
use Rattle.http_front.specs.Pieces.{parts_text}
use Rattle.http_front.proofs.pieces.PartsBody.give.Given as goal

abbrev pub invariant-loop-index : goal.invariant-loop-index
invariant-loop-index g l =
    GaveBytes (g.K.Sink.at l.initial.sink) (g.K.Sink.at l.sink) (parts_text (take l.index l.self.parts.items))
