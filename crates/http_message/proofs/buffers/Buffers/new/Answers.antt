use Rattle.std.proofs.Common.{arith}
use Rattle.http_message.proofs.buffers.Buffers.new.Goals as goal

pub invariant_of-result : goal.invariant_of-result
invariant_of-result c = record {
  text_size = omega (arith, c.in_ok-text.ensures.len, c.in_ok-text.text.ok.0);
  spans_size = omega (arith, c.in_ok-spans.ensures.len, c.in_ok-spans.spans.ok.0);
  trailer_spans_size = omega (arith, c.in_ok-trailer_spans.ensures.len, c.in_ok-trailer_spans.trailer_spans.ok.0);
  body_size = omega (arith, c.in_ok-body.ensures.len, c.in_ok-body.body.ok.0);
}
