-- the row was the first of its record, and its document is the base now
use Rattle.std.proofs.Common.{ap, ◌∙◌, arith}
use Rattle.commit_book.specs.Contents.{Contents}
use Rattle.commit_book.proofs.StepLemmas.{frees, has-commit, sound-dropped}
use Rattle.commit_book.proofs.book.Book.drop_next.Goals as goal

pub drop_row-requires-clause-commits : goal.drop_row-requires-clause-commits
drop_row-requires-clause-commits c = has-commit _ _ _ _ c.self.inside.rows c.pop_front.new.self c.in-Some.row c.self.inside.past c.self.inside.collections c.self.inside.reserved c.self.invariant c.in-Some.ensures.items

pub drop_row-requires-clause-fits : goal.drop_row-requires-clause-fits
drop_row-requires-clause-fits c =
    let sum = frees _ _ _ _ c.self.inside.rows c.pop_front.new.self c.in-Some.row c.self.inside.past c.self.inside.collections c.self.inside.reserved c.self.invariant c.in-Some.ensures.items in
    omega (arith, sum, c.self.invariant.fits, c.self.invariant.most)

pub overflow_sub-self : goal.overflow_sub-self
overflow_sub-self c =
    let sum = frees _ _ _ _ c.self.inside.rows c.pop_front.new.self c.in-Some.row c.self.inside.past c.self.inside.collections c.self.inside.reserved c.self.invariant c.in-Some.ensures.items in
    omega (arith, sum, c.drop_row.ensures.freed)

pub invariant_of-self : goal.invariant_of-self
invariant_of-self c =
    sound-dropped _ _ _ _ c.self.inside.rows c.pop_front.new.self c.in-Some.row c.self.inside.past c.self.inside.collections c.self.inside.reserved c.self.invariant c.in-Some.ensures.items
    c.drop_row.result c.drop_row.new.collections (ap (λ (b : Contents). b.reserved) c.self.view_is ∙ c.requires.forgotten) c.drop_row.ensures.freed c.drop_row.ensures.drops
