use Rattle.std.proofs.Common.{arith}
use Rattle.client_wire.proofs.room.ReplyRoom.new.Goals as goal

pub invariant_of-result : goal.invariant_of-result
invariant_of-result c = record {
  text_size = omega (arith, c.in_ok-text.ensures.len, c.in_ok-text.text.ok.0);
  spans_size = omega (arith, c.in_ok-spans.ensures.len, c.in_ok-spans.spans.ok.0);
}
