-- the steps so far, and those that are left
use Rattle.std.proofs.Common.{◌≡◌, ◌-◌, ◌++◌, length, All}
use Rattle.world_core.specs.Steps.{steps_of, IsInRange}
use Rattle.world_core.proofs.step.steps_of.Given as goal

abbrev pub invariant-loop-turn : goal.invariant-loop-turn
invariant-loop-turn l = record {
  steps : l.steps.items ++ steps_of (l.count - l._turn) l.generator.number ≡ steps_of l.count l.seed;
  count : length l.steps.items ≡ l._turn;
  range : All IsInRange l.steps.items;
}
