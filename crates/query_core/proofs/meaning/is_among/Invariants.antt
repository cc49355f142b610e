use Rattle.std.proofs.Common.{◌≡◌, drop}
use Rattle.std.specs.List.{list_any}
use Rattle.query_core.specs.Meaning.{same_value}
use Rattle.query_core.proofs.meaning.is_among.Given as goal

abbrev pub invariant-loop-value : goal.invariant-loop-value
invariant-loop-value l = list_any (same_value l.node) l.values ≡ list_any (same_value l.node) (drop l.value-index l.values)
