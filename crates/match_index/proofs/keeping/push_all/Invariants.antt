-- the keys so far
use Rattle.std.proofs.Common.{◌≡◌, ◌++◌, take}
use Rattle.match_index.proofs.keeping.push_all.Given as goal

abbrev pub invariant-loop-key : goal.invariant-loop-key
invariant-loop-key l = l.found.items ≡ l.initial.found.items ++ take l.key-index l.keys
