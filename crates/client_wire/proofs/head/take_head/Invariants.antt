use Rattle.std.proofs.Common.{◌≡◌, ◌-◌, length}
use Rattle.http_message.specs.Limits.{head_limit}
use Rattle.client_wire.proofs.HeadLemmas.{IsSearched}
use Rattle.client_wire.proofs.head.take_head.Given as goal

abbrev pub invariant-loop-found : goal.invariant-loop-found
invariant-loop-found g l = record {
  size : length l.buffer ≡ length l.initial.buffer;
  searched : IsSearched (g.S.Source.at l.fn.source) (g.S.Source.at l.source) l.buffer l.count l.scan;
}

abbrev pub decreases-loop-found : goal.decreases-loop-found
decreases-loop-found g l = head_limit - l.count
