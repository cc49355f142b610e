-- the keys so far are copied
use Rattle.std.proofs.Common.{◌≡◌, ◌≤◌, take, length}
use Rattle.hub_core.proofs.purging.keys_of.Given as goal

abbrev pub invariant-loop-index : goal.invariant-loop-index
invariant-loop-index l = record {
  keys : l.keys.items ≡ take l.index l.found.keys;
  within : l.index ≤ length l.found.keys;
}
