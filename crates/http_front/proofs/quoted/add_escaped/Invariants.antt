use Rattle.std.proofs.Common.{◌≤◌, ◌++◌, take, length}
use Rattle.json.specs.Print.{escape}
use Rattle.http_front.specs.Buffered.{IsBuffered}
use Rattle.http_front.proofs.quoted.add_escaped.Given as goal

-- the rest of the text is to come
abbrev pub invariant-loop-end : goal.invariant-loop-end
invariant-loop-end g l = record {
  within : l.end ≤ length l.buffer;
  buffered : IsBuffered (g.K.Sink.at l.initial.sink) (g.K.Sink.at l.sink) (take l.fn.at l.initial.buffer ++ escape l.text) (take l.end l.buffer) (escape l.rest);
}

abbrev pub decreases-loop-end : goal.decreases-loop-end
decreases-loop-end g l = length l.rest
