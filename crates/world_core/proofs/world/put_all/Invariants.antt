-- the first products are there
use Rattle.world_core.specs.World.{IsFilled}
use Rattle.world_core.proofs.world.put_all.Given as goal

abbrev pub invariant-loop-index : goal.invariant-loop-index
invariant-loop-index l = IsFilled 0 l.initial.store → IsFilled l.index l.store
