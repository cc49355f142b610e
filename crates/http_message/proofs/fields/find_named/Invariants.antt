use Rattle.std.proofs.Common.{take, map}
use Rattle.httparse.specs.Spans.{header_bytes}
use Rattle.http_message.specs.Fields.{values}
use Rattle.http_message.specs.Named.{IsNamed}
use Rattle.http_message.proofs.fields.find_named.Given as goal

abbrev pub invariant-loop-field : goal.invariant-loop-field
invariant-loop-field l = IsNamed (values l.name (map (header_bytes l.text) (take l.field-index l.fields))) l.found
