use Rattle.std.proofs.Common.{◌≡◌, map, drop}
use Rattle.httparse.specs.Spans.{header_bytes}
use Rattle.client_wire.specs.ReplyFields.{directives}
use Rattle.client_wire.specs.Values.{no_directives, with_all}
use Rattle.client_wire.proofs.lifetime.lifetime_in.Given as goal

abbrev pub invariant-loop-field : goal.invariant-loop-field
invariant-loop-field l =
    with_all l.found (directives (map (header_bytes l.text) (drop l.field-index l.fields)))
    ≡ with_all no_directives (directives (map (header_bytes l.text) l.fields))
