-- some purges are known, and some are left
use Rattle.std.proofs.Common.{◌-◌, length}
use Rattle.world_core.specs.Link.{purges_in}
use Rattle.world_core.specs.Store.{HasGrown}
use Rattle.world_core.proofs.PullLemmas.{IsPulling}
use Rattle.world_core.proofs.link.WorldLink.pull.Given as goal

abbrev pub invariant-loop-is_more : goal.invariant-loop-is_more
invariant-loop-is_more l = record {
  pulling : IsPulling l.initial.self l.self;
  grown : HasGrown l.initial.self.store l.self.store;
}

abbrev pub decreases-loop-is_more : goal.decreases-loop-is_more
decreases-loop-is_more l = length (purges_in l.initial.self) - l.self.purges
