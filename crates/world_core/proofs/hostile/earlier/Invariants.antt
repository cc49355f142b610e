-- the replies that were passed over are counted
use Rattle.std.proofs.Common.{◌≡◌, ◌<◌, drop}
use Rattle.world_core.specs.Hostile.{earlier}
use Rattle.world_core.proofs.hostile.earlier.Given as goal

abbrev pub invariant-loop-index : goal.invariant-loop-index
invariant-loop-index l = record {
  some : 0 < l.left;
  same : earlier l.left l.key (drop l.index l.given.items) ≡ earlier l.back l.key l.given.items;
}
