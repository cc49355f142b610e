use Rattle.std.proofs.Common.{◌≡◌, take, map, false}
use Rattle.httparse.specs.Spans.{header_bytes}
use Rattle.http_message.specs.Message.{expects}
use Rattle.http_message.proofs.fields.expects.Given as goal

abbrev pub invariant-loop-field : goal.invariant-loop-field
invariant-loop-field l = expects (map (header_bytes l.text) (take l.field-index l.fields)) ≡ false
