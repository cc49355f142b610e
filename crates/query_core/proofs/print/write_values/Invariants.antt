use Rattle.std.proofs.Common.{◌≡◌, ◌++◌, take, codes}
use Rattle.std.specs.List.{flat_map}
use Rattle.query_core.specs.Print.{value_text}
use Rattle.query_core.proofs.print.write_values.Given as goal

abbrev pub invariant-loop-value : goal.invariant-loop-value
invariant-loop-value l = l.out.items ≡ l.initial.out.items ++ flat_map (λ y. codes ", " ++ value_text y) (take l.value-index l.rest)
