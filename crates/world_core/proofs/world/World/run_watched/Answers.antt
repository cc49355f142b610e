-- one step more
use Rattle.std.proofs.Common.{◌≡◌, ℕ, ◌+◌, List, ◌++◌, ◌∷◌, [], length, take, get_or, sym, ap, ◌∙◌, subst, arith}
use Rattle.std.proofs.lemmas.List.{length-take, take_all, take_more}
use Rattle.world_core.specs.declared.line.ReadLine.{ReadLine}
use Rattle.world_core.specs.declared.step.Step.{Step}
use Rattle.std.proofs.lemmas.List.Elements.{All-get_or}
use Rattle.world_core.specs.Steps.{IsInRange}
use Rattle.world_core.specs.World.{IsRun}
use Rattle.world_core.proofs.RunLemmas.{run_further}
use Rattle.world_core.proofs.world.World.run_watched.Goals as goal

pub step_into-requires : goal.step_into-requires
step_into-requires g c =
    subst (λ (s : Step). IsInRange s) (sym c.index-steps-index.is)
    (All-get_or (λ (s : Step). IsInRange s) c.args.steps.now c.loop-index.index c.index-steps-index.result (omega arith) c.requires.range)

pub loop-index-preserved : goal.loop-index-preserved
loop-index-preserved g c =
    run_further c.args.steps.now c.loop-index.index (omega arith) c.index-steps-index.result c.index-steps-index.is (c.loop-index.index + 1) c.args.self.now c.loop-index.self c.step_into.new.self c.loop-index.lines.items c.step_into.new.lines.items (omega arith) c.loop-index.invariant c.in_ok-step_into.ensures

pub returns : goal.returns
returns g c = subst (λ (ss : List Step). IsRun 1 ss c.args.self.now c.loop-index.self c.loop-index.lines.items) (take_all c.loop-index.index c.args.steps.now (omega arith)) c.loop-index.invariant
