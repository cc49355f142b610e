-- the kind is the first draw
use Rattle.std.proofs.Common.{ap, ap₂, ◌∙◌}
use Rattle.std.proofs.lemmas.Result.{IfOk-weaker}
use Rattle.world_core.specs.Draws.{drawn}
use Rattle.world_core.specs.Steps.{next_step, step_from}
use Rattle.world_core.proofs.generator.Generator.step.Goals as goal

pub returns-clause-step : goal.returns-clause-step
unfolding next_step
returns-clause-step c =
    IfOk-weaker c.step_of.result _ _ (λ step e. e ∙ ap₂ step_from (c.draw-kind.ensures.drawn ∙ ap (drawn 100) c.draw-kind.ensures.number) c.draw-kind.ensures.number) c.step_of.ensures.step
