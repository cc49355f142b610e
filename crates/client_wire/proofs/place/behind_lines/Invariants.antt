use Rattle.std.proofs.Common.{◌≡◌, ◌≤◌, ◌-◌, length}
use Rattle.client_wire.specs.ReplyFields.{behind_lines}
use Rattle.client_wire.proofs.place.behind_lines.Given as goal

abbrev pub invariant-loop-index : goal.invariant-loop-index
invariant-loop-index l = record {
  behind : l.rest ≡ behind_lines l.index l.text;
  shorter : length l.rest ≤ length l.text;
  within : l.index ≤ l.count;
}

abbrev pub decreases-loop-index : goal.decreases-loop-index
decreases-loop-index l = l.count - l.index
