use Rattle.std.proofs.Common.{◌≡◌, ◌≤◌, length}
use Rattle.client_wire.specs.ReplyFields.{behind}
use Rattle.client_wire.proofs.place.behind.Given as goal

abbrev pub invariant-loop-rest : goal.invariant-loop-rest
invariant-loop-rest l = record {
  same : behind l.byte l.rest ≡ behind l.byte l.text;
  shorter : length l.rest ≤ length l.text;
}

abbrev pub decreases-loop-rest : goal.decreases-loop-rest
decreases-loop-rest l = length l.rest
