-- the steps so far were made
use Rattle.std.proofs.Common.{take}
use Rattle.world_core.specs.World.{IsRun}
use Rattle.world_core.proofs.world.World.run_watched.Given as goal

abbrev pub invariant-loop-index : goal.invariant-loop-index
invariant-loop-index g l = IsRun 1 (take l.index l.steps) l.initial.self l.self l.lines.items
