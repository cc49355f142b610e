use Rattle.std.proofs.Common.{◌≤◌, ◌++◌, take, drop, length}
use Rattle.http_front.specs.Bodies.{keys_behind, keys_json}
use Rattle.http_front.specs.Buffered.{IsBuffered}
use Rattle.http_front.proofs.purges.add_keys.Given as goal

-- the keys that are left are to come
abbrev pub invariant-loop-key : goal.invariant-loop-key
invariant-loop-key g l = record {
  within : l.end ≤ length l.buffer;
  buffered : IsBuffered (g.K.Sink.at l.fn.sink) (g.K.Sink.at l.sink) (take l.fn.at l.fn.buffer ++ keys_json l.fn.keys) (take l.end l.buffer) (keys_behind (drop l.key-index l.rest));
}
