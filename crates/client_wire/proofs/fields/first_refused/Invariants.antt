use Rattle.std.proofs.Common.{◌≡◌, ◌-◌, ◌≤◌, [], length, map, take, drop}
use Rattle.httparse.specs.Spans.{header_bytes}
use Rattle.client_wire.specs.ReplyFields.{first_refused}
use Rattle.client_wire.proofs.fields.first_refused.Given as goal

abbrev pub invariant-loop-index : goal.invariant-loop-index
invariant-loop-index l = record {
  within : l.index ≤ length l.fields;
  same :
      first_refused l.status (map (header_bytes l.text) (take l.index l.fields)) (map (header_bytes l.text) (drop l.index l.fields))
      ≡ first_refused l.status [] (map (header_bytes l.text) l.fields);
}

abbrev pub decreases-loop-index : goal.decreases-loop-index
decreases-loop-index l = length l.fields - l.index
