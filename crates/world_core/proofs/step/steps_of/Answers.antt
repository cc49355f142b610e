-- one step more
use Rattle.std.proofs.Common.{◌≡◌, ℕ, ◌+◌, ◌-◌, suc, List, ◌++◌, length, ap, sym, ◌∙◌, subst, append-nil, arith}
use Rattle.std.specs.Prelude.{All}
use Rattle.std.proofs.lemmas.List.{length_push}
use Rattle.std.proofs.lemmas.List.Elements.{All-push}
use Rattle.world_core.specs.declared.step.Step.{Step}
use Rattle.world_core.specs.Steps.{IsInRange, steps_of}
use Rattle.world_core.proofs.StepLemmas.{steps_on}
use Rattle.world_core.proofs.step.steps_of.Goals as goal

pub loop-turn-preserved : goal.loop-turn-preserved
loop-turn-preserved c =
    let more = length_push c.loop-turn.steps.items c.in_ok-step.step in
    let items = ap length c.in_ok-push.ensures.items in
    let count = c.loop-turn.invariant.count in
    record {
      steps =
          ap (λ (xs : List Step). xs ++ steps_of (c.args.count - (c.loop-turn._turn + 1)) c.step.new.self.number) c.in_ok-push.ensures.items
          ∙ steps_on c.loop-turn.steps.items c.in_ok-step.step c.loop-turn.generator.number c.step.new.self.number (c.args.count - c.loop-turn._turn) (c.args.count - (c.loop-turn._turn + 1)) c.in_ok-step.ensures.step (omega arith)
          ∙ c.loop-turn.invariant.steps;
      count = omega (arith, more, items, count);
      range = subst (λ (xs : List Step). All IsInRange xs) (sym c.in_ok-push.ensures.items) (All-push IsInRange c.loop-turn.steps.items c.in_ok-step.step c.loop-turn.invariant.range c.in_ok-step.ensures.range);
    }

pub returns-clause-steps : goal.returns-clause-steps
returns-clause-steps c =
    let none : c.args.count - c.loop-turn._turn ≡ 0 = omega arith in
    sym (append-nil c.loop-turn.steps.items)
    ∙ ap (λ (n : ℕ). c.loop-turn.steps.items ++ steps_of n c.loop-turn.generator.number) (sym none)
    ∙ c.loop-turn.invariant.steps
