use Rattle.std.proofs.Common.{◌+◌, length, ◌∙◌, sym, refl, arith}
use Rattle.std.proofs.lemmas.Slice.{between_to_end}
use Rattle.http_front.proofs.CutLemmas.{ahead_at, ahead_of_none}
use Rattle.http_front.proofs.cut.cut_at.Goals as goal

pub returns-in-Some-clause-ahead : goal.returns-in-Some-clause-ahead
returns-in-Some-clause-ahead c =
    ahead_at c.args.separator c.args.text.now c.in-Some.offset (sym c.offset_of.ensures ∙ c.in-Some.is)

pub returns-in-Some-clause-behind : goal.returns-in-Some-clause-behind
returns-in-Some-clause-behind c =
    let text = c.args.text.now in
    let found = sym c.offset_of.ensures ∙ c.in-Some.is in
    rw (found, between_to_end text (c.in-Some.offset + 1) (length text) (omega arith)) refl

pub returns-in-None-clause-ahead : goal.returns-in-None-clause-ahead
returns-in-None-clause-ahead c = ahead_of_none c.args.separator c.args.text.now (sym c.offset_of.ensures ∙ c.in-None.is)

pub returns-in-None-clause-behind : goal.returns-in-None-clause-behind
returns-in-None-clause-behind c =
    rw (sym c.offset_of.ensures ∙ c.in-None.is) refl
