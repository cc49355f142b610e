-- the kind is the first draw
use Rattle.std.proofs.Common.{ap, ap₂, ◌∙◌}
use Rattle.world_core.specs.Draws.{drawn}
use Rattle.crash_core.specs.Steps.{next_step, step_from}
use Rattle.crash_core.proofs.step.next_step.Goals as goal

pub returns : goal.returns
unfolding next_step
returns c = c.step_of.ensures ∙ ap₂ step_from (c.draw-kind.ensures.drawn ∙ ap (drawn 100) c.draw-kind.ensures.number) c.draw-kind.ensures.number
