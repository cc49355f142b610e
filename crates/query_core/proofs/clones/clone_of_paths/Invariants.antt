use Rattle.std.proofs.Common.{◌≡◌, take}
use Rattle.query_core.proofs.clones.clone_of_paths.Given as goal

abbrev pub invariant-loop-path : goal.invariant-loop-path
invariant-loop-path l = l.clones.items ≡ take l.path-index l.path-items
