use Rattle.std.proofs.Common.{◌≤◌, ◌++◌, take, drop, codes, length}
use Rattle.std.specs.List.{flat_map}
use Rattle.result_kinds.specs.Results.{object_text, objects_text}
use Rattle.http_front.specs.Buffered.{IsBuffered}
use Rattle.http_front.proofs.results.add_objects.Given as goal

-- what is left of the list is to come
abbrev pub invariant-loop-row : goal.invariant-loop-row
invariant-loop-row g l = record {
  within : l.end ≤ length l.buffer;
  buffered : IsBuffered (g.K.Sink.at l.fn.sink) (g.K.Sink.at l.sink) (take l.fn.at l.fn.buffer ++ objects_text l.fn.rows) (take l.end l.buffer) (flat_map (λ y. codes "," ++ object_text y) (drop l.row-index l.rest) ++ codes "]");
}
