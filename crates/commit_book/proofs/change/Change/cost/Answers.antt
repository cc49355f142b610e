use Rattle.std.proofs.Common.{Option, length, ap, arith}
use Rattle.q_doc.specs.Tree.{Tree}
use Rattle.commit_book.specs.Journal.{cost_of, text_of}
use Rattle.commit_book.proofs.change.Change.cost.Goals as goal

-- the size is that of the text
pub returns-in-Some-clause-cost : goal.returns-in-Some-clause-cost
unfolding cost_of
returns-in-Some-clause-cost c =
    let size = ap (λ (o : Option Tree). length (text_of o)) c.in-Some.is in
    omega (arith, c.cost_with.ensures.cost, c.printed_len.ensures, size)

-- a deletion has none
pub returns-in-None-clause-cost : goal.returns-in-None-clause-cost
unfolding cost_of
returns-in-None-clause-cost c =
    let size = ap (λ (o : Option Tree). length (text_of o)) c.in-None.is in
    omega (arith, c.cost_with-in-None.ensures.cost, size)
