-- the keys so far and those of the paths that are left
use Rattle.std.proofs.Common.{◌≡◌, ◌++◌}
use Rattle.std.specs.List.{flat_map}
use Rattle.match_index.specs.Found.{keys_of_entry, AreOnce}
use Rattle.match_index.proofs.keeping.push_paths.Given as goal

abbrev pub invariant-loop-path : goal.invariant-loop-path
invariant-loop-path l = record {
  found : l.found.items ++ flat_map (keys_of_entry l.row.before l.row.after) l.path-iterator ≡ l.initial.found.items ++ flat_map (keys_of_entry l.row.before l.row.after) l.paths.entries;
  once : AreOnce l.row.before l.row.after l.path-iterator → AreOnce l.row.before l.row.after l.paths.entries;
}
