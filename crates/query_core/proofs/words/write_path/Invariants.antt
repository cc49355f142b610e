use Rattle.std.proofs.Common.{◌≡◌, ◌++◌, take, codes}
use Rattle.std.specs.List.{flat_map}
use Rattle.query_core.specs.Print.{segment_text}
use Rattle.query_core.proofs.words.write_path.Given as goal

abbrev pub invariant-loop-segment : goal.invariant-loop-segment
invariant-loop-segment l = l.out.items ≡ l.initial.out.items ++ flat_map (λ y. codes "." ++ segment_text y) (take l.segment-index l.rest)
