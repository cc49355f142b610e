-- the steps of the seed, in a new world
use Rattle.std.proofs.Common.{List, subst, ◌∙◌}
use Rattle.std.proofs.lemmas.Result.{IfOk-weaker}
use Rattle.world_core.specs.declared.step.Step.{Step}
use Rattle.world_core.specs.World.{IsRun}
use Rattle.world_core.proofs.text.world_text.Goals as goal

pub returns : goal.returns
returns g c = IfOk-weaker c.run_text-text.result _ _ (λ text e. record {
  new = c.in_ok-world.world;
  last = c.run_text-text.new.world;
  lines = e.lines;
  is_new = c.in_ok-world.ensures;
  run = subst (λ (ss : List Step). IsRun 1 ss c.in_ok-world.world c.run_text-text.new.world e.lines) (c.deref.ensures.value ∙ c.in_ok-steps.ensures.steps) e.run;
  text_is = e.text_is;
}) c.run_text-text.ensures
