use Rattle.std.proofs.Common.{◌≡◌, ◌+◌, ◌≤◌, length}
use Rattle.indexmap.specs.IndexSet.{spare as set_spare}
use Rattle.std.specs.List.{IsDistinct}
use Rattle.std.specs.Map.{keys_of}
use Rattle.query_normal.specs.Keys.{same_key}
use Rattle.issued_expiries.specs.Entries.{copies_in, AllAge, AreTied}
use Rattle.issued_expiries.proofs.held.expire.Given as goal

abbrev pub invariant-loop-key : goal.invariant-loop-key
invariant-loop-key l = record {
  ages : AllAge l.moment (copies_in l.initial.held.entries) (copies_in l.held.entries) l.initial.idle.keys l.idle.keys;
  tied : AreTied l.held.entries;
  distinct : IsDistinct same_key (keys_of (copies_in l.held.entries));
  reserved : l.held.reserved ≡ l.initial.held.reserved;
  space : length l.held.entries ≤ set_spare l.idle;
  len : length l.held.entries ≤ length l.initial.held.entries;
  idle_spare : set_spare l.initial.idle + length l.held.entries ≤ set_spare l.idle + length l.initial.held.entries;
}

-- each step takes a key out
abbrev pub decreases-loop-key : goal.decreases-loop-key
decreases-loop-key l = length l.held.entries
