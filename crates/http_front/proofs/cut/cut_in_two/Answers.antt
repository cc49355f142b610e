use Rattle.std.proofs.Common.{◌+◌, length, ◌∙◌, sym, arith}
use Rattle.std.proofs.lemmas.Slice.{between_to_end}
use Rattle.http_front.proofs.CutLemmas.{ahead_at, ahead_of_none, after_at, after_none}
use Rattle.http_front.proofs.cut.cut_in_two.Goals as goal

pub returns-in-Some-clause-ahead : goal.returns-in-Some-clause-ahead
returns-in-Some-clause-ahead c =
    ahead_at c.args.separator c.args.text.now c.in-Some.offset (sym c.offset_of.ensures ∙ c.in-Some.is)

pub returns-in-Some-clause-after : goal.returns-in-Some-clause-after
returns-in-Some-clause-after c =
    let text = c.args.text.now in
    between_to_end text (c.in-Some.offset + 1) (length text) (omega arith)
    ∙ after_at c.args.separator text c.in-Some.offset (sym c.offset_of.ensures ∙ c.in-Some.is)

pub returns-in-None-clause-ahead : goal.returns-in-None-clause-ahead
returns-in-None-clause-ahead c = ahead_of_none c.args.separator c.args.text.now (sym c.offset_of.ensures ∙ c.in-None.is)

pub returns-in-None-clause-after : goal.returns-in-None-clause-after
returns-in-None-clause-after c = after_none c.args.separator c.args.text.now (sym c.offset_of.ensures ∙ c.in-None.is)
