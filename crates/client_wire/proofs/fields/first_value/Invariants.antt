use Rattle.std.proofs.Common.{◌≡◌, length, map, All}
use Rattle.httparse.specs.Spans.{header_bytes, IsHeaderWithin}
use Rattle.client_wire.specs.ReplyFields.{first_value}
use Rattle.client_wire.proofs.fields.first_value.Given as goal

abbrev pub invariant-loop-rest : goal.invariant-loop-rest
invariant-loop-rest l = record {
  same : first_value l.name (map (header_bytes l.text) l.rest) ≡ first_value l.name (map (header_bytes l.text) l.fields);
  within : All (IsHeaderWithin (length l.text)) l.rest;
}

abbrev pub decreases-loop-rest : goal.decreases-loop-rest
decreases-loop-rest l = length l.rest
