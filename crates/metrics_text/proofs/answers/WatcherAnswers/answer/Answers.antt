-- the text begins with the line of what the request asks for
use Rattle.std.proofs.Common.{ℕ, List, ◌++◌, false, ap, ap₂, ◌∙◌}
use Rattle.metrics_text.specs.Shown.{line_of, shown_of}
use Rattle.metrics_text.specs.declared.shown.Shown.{Shown}
use Rattle.metrics_text.proofs.answers.WatcherAnswers.answer.Goals as goal

pub returns-in-Some-clause-reply : goal.returns-in-Some-clause-reply
returns-in-Some-clause-reply g c =
    let shown = c.of-shown.ensures ∙ ap₂ shown_of c.method.ensures c.target.ensures in
    let line = c.line.ensures ∙ ap (λ (s : Shown). line_of s c.behind-served.result.0) shown in
    (_, (c.behind-served.result.0, c.deref.result.now, ap (λ (t : List ℕ). t ++ c.deref.result.now) line), c.give_both.ensures)

pub returns-clause-reply : goal.returns-clause-reply
returns-clause-reply g c =
    let shown = c.of-shown.ensures ∙ ap₂ shown_of c.method.ensures c.target.ensures in
    let line = c.line-in-None.ensures ∙ ap (λ (s : Shown). line_of s false) shown in
    (_, (false, _, ap (λ (t : List ℕ). t ++ _) line), c.give_both-in-None.ensures)
