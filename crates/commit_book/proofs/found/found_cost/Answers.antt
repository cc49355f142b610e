-- the length is that of the text
use Rattle.std.proofs.Common.{length, sym, ap, ◌∙◌, arith, option_map}
use Rattle.commit_book.proofs.NewestLemmas.{text-cost, no-cost}
use Rattle.commit_book.proofs.found.found_cost.Goals as goal

pub returns-in-Some : goal.returns-in-Some
returns-in-Some c = λ document is.
    let cost = text-cost c.args.change.now.collection c.args.change.now.id c.in-Some.found.text.now c.in-Some.found.commit document (sym (ap (option_map (λ f. (f.commit, f.text.now))) c.in-Some.is) ∙ is) in
    omega (arith, cost, c.cost_with.ensures.cost, ap length c.as_slice.ensures)

pub returns-in-None : goal.returns-in-None
returns-in-None c = λ document is. no-cost c.args.change.now.collection c.args.change.now.id document (sym (ap (option_map (λ f. (f.commit, f.text.now))) c.in-None.is) ∙ is)
