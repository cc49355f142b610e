use Rattle.std.proofs.Common.{◌≡◌, length, map, All}
use Rattle.httparse.specs.Spans.{header_bytes, IsHeaderWithin}
use Rattle.client_wire.specs.ReplyFields.{stands}
use Rattle.client_wire.proofs.fields.stands.Given as goal

abbrev pub invariant-loop-rest : goal.invariant-loop-rest
invariant-loop-rest l = record {
  same : stands l.name (map (header_bytes l.text) l.rest) ≡ stands l.name (map (header_bytes l.text) l.fields);
  within : All (IsHeaderWithin (length l.text)) l.rest;
}

abbrev pub decreases-loop-rest : goal.decreases-loop-rest
decreases-loop-rest l = length l.rest
