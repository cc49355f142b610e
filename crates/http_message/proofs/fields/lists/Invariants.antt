use Rattle.std.proofs.Common.{◌≡◌, take, map, false}
use Rattle.std.specs.List.{list_any}
use Rattle.httparse.specs.Spans.{header_bytes}
use Rattle.http_message.specs.Fields.{values, has_option}
use Rattle.http_message.proofs.fields.lists.Given as goal

abbrev pub invariant-loop-field : goal.invariant-loop-field
invariant-loop-field l =
    list_any (has_option l.option)
    (values l.name (map (header_bytes l.text) (take l.field-index l.fields)))
    ≡ false
