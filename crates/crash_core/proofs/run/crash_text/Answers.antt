-- the text of the run is that of its draws
use Rattle.std.proofs.Common.{List, ◌++◌, ◌-◌, length, refl, ap, ◌∙◌}
use Rattle.std.proofs.lemmas.Result.{IfOk-weaker}
use Rattle.crash_core.specs.declared.lines.OpenLine.{OpenLine}
use Rattle.crash_core.specs.Lines.{lines_text, numbers_text}
use Rattle.crash_core.proofs.RunLemmas.{text_of_run}
use Rattle.crash_core.proofs.run.crash_text.Goals as goal

pub returns : goal.returns
returns c = IfOk-weaker c.text_of.result _ _ (λ text e.
    text_of_run c.args.seed c.args.count c.in_ok-ran.ensures.last c.in_ok-ran.ensures.number _ _ _ _ c.in_ok-ran.ensures.so_far c.in_ok-ran.ensures.commits_are refl
    (e ∙ ap (λ (xs : List OpenLine). lines_text xs ++ numbers_text c.args.count c.in_ok-ran.ran.commits (length xs - 1)) c.deref.ensures.value)) c.text_of.ensures
