-- the run so far
use Rattle.crash_core.specs.Run.{IsSoFar}
use Rattle.crash_core.proofs.run.run_counted.Given as goal

abbrev pub invariant-loop-step : goal.invariant-loop-step
invariant-loop-step g l = IsSoFar l.seed l.step l.machine l.generator.number l.lines.items
