use Rattle.std.proofs.Common.{◌≤◌, ◌++◌, take, drop, codes, length}
use Rattle.std.specs.List.{flat_map}
use Rattle.result_kinds.specs.Results.{id_text, ids_text}
use Rattle.http_front.specs.Buffered.{IsBuffered}
use Rattle.http_front.proofs.results.add_ids.Given as goal

-- what is left of the list is to come
abbrev pub invariant-loop-id : goal.invariant-loop-id
invariant-loop-id g l = record {
  within : l.end ≤ length l.buffer;
  buffered : IsBuffered (g.K.Sink.at l.fn.sink) (g.K.Sink.at l.sink) (take l.fn.at l.fn.buffer ++ ids_text l.fn.ids) (take l.end l.buffer) (flat_map (λ y. codes "," ++ id_text y) (drop l.id-index l.rest) ++ codes "]");
}
