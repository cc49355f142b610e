-- the next line was appended
use Rattle.std.proofs.Common.{arith, sym, ap, ◌∙◌, append-nil, List, ◌++◌}
use Rattle.std.proofs.lemmas.List.{drop_all}
use Rattle.world_core.specs.declared.line.ReadLine.{ReadLine}
use Rattle.world_core.specs.Text.{lines_text}
use Rattle.world_core.proofs.TextLemmas.{lines_on}
use Rattle.world_core.proofs.text.push_lines.Goals as goal

pub loop-line-preserved : goal.loop-line-preserved
loop-line-preserved c =
    lines_on c.args.lines.now c.loop-line.line-index c.line-item.result c.loop-line.text.items c.push_line.new.text.items _ (omega arith) c.line-item.is c.in_ok-push_line.ensures c.loop-line.invariant

pub returns : goal.returns
returns c =
    sym (append-nil c.loop-line.text.items)
    ∙ ap (λ (xs : List ReadLine). c.loop-line.text.items ++ lines_text xs) (sym (drop_all c.loop-line.line-index c.args.lines.now (omega arith)))
    ∙ c.loop-line.invariant
