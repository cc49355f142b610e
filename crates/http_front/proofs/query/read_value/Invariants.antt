use Rattle.std.proofs.Common.{◌≡◌, ◌++◌, length}
use Rattle.http_front.specs.Query.{decoded}
use Rattle.http_front.proofs.query.read_value.Given as goal

abbrev pub invariant-loop-value : goal.invariant-loop-value
invariant-loop-value l = l.value.items ++ decoded l.rest ≡ decoded l.text

abbrev pub decreases-loop-value : goal.decreases-loop-value
decreases-loop-value l = length l.rest
