-- the empty disk was opened, and then came one step after another
use Rattle.std.proofs.Common.{ℕ, arith, subst, List, [], ◌∷◌, ◌++◌, Some, refl, ap, ◌∙◌}
use Rattle.disks.specs.Histories.{History}
use Rattle.crash_core.specs.declared.lines.OpenLine.{OpenLine}
use Rattle.crash_core.specs.Run.{IsSoFar}
use Rattle.crash_core.proofs.MachineLemmas.{run_begins}
use Rattle.crash_core.proofs.RunLemmas.{so_far_more}
use Rattle.crash_core.proofs.run.run_counted.Goals as goal

-- a disk with these bytes, of which no call was made
abbrev the_history : List ℕ → History
the_history bytes = record { start = bytes; calls = [] }

pub loop-step-init : goal.loop-step-init
loop-step-init g c = run_begins c.args.seed c.in_ok-machine.machine c.in_ok-machine.line _ _ _ c.nothing-nothing.ensures (c.new-disk.ensures.history ∙ ap (λ (bytes : List ℕ). Some (the_history bytes)) c.new.ensures.items) c.in_ok-machine.ensures (c.in_ok-push.ensures.items ∙ ap (λ (lines : List OpenLine). lines ++ c.in_ok-machine.line ∷ []) c.new-lines.ensures.items)

pub loop-step-preserved : goal.loop-step-preserved
loop-step-preserved g c = so_far_more _ c.loop-step.step _ _ _ _ _ _ _ _ refl refl c.loop-step.invariant c.in_ok-machine-2.ensures

pub returns : goal.returns
returns g c =
    let end = c.loop-step.auto.step-end in
    record {
      last = c.loop-step.machine;
      number = c.loop-step.generator.number;
      so_far = subst (λ (n : ℕ). IsSoFar c.args.seed n c.loop-step.machine c.loop-step.generator.number c.loop-step.lines.items) (omega (arith, end, c.loop-step-test.false)) c.loop-step.invariant;
      commits_are = c.in_ok-commits.ensures;
    }
