-- the next line was appended
use Rattle.std.proofs.Common.{arith, rules, sym, ap, ◌∙◌, append-nil, List, ◌++◌}
use Rattle.std.proofs.lemmas.List.{drop_all}
use Rattle.crash_core.specs.declared.lines.OpenLine.{OpenLine}
use Rattle.crash_core.specs.Lines.{lines_text}
use Rattle.crash_core.proofs.LineLemmas.{lines_on}
use Rattle.crash_core.proofs.lines.push_lines.Goals as goal

pub loop-line-preserved : goal.loop-line-preserved
loop-line-preserved c =
    lines_on c.args.lines.now c.loop-line.line-index _ c.loop-line.text.items c.push_line.new.text.items _ (omega arith) (search rules) c.in_ok-push_line.ensures c.loop-line.invariant

pub returns : goal.returns
returns c =
    sym (append-nil c.loop-line.text.items)
    ∙ ap (λ (xs : List OpenLine). c.loop-line.text.items ++ lines_text xs) (sym (drop_all c.loop-line.line-index c.args.lines.now (omega arith)))
    ∙ c.loop-line.invariant
