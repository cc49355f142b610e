use Rattle.std.proofs.Common.{map, take}
use Rattle.httparse.specs.Spans.{header_bytes}
use Rattle.http_message.specs.Fields.{Pair}
use Rattle.http_message.proofs.FieldLemmas.{part_at}
use Rattle.http_message.proofs.message.Request.value.Goals as goal

pub returns : goal.returns
returns c =
    let text = c.self.inside.text.now in
    let spans = take c.self.inside.parts.headers c.self.inside.spans.now in
    rw (← c.self.view_is, c.of.ensures) (part_at (λ (pair : Pair). pair.1) (map (header_bytes text) spans) c.args.index
    (header_bytes text c.field_at-field.result) c.field_at-field.ensures.is)
