-- the index is empty
use Rattle.std.proofs.Common.{None}
use Rattle.commit_book.proofs.SpaceLemmas.{empty-sound, empty-names}
use Rattle.commit_book.proofs.book.Book.new.Goals as goal

pub invariant_of-result : goal.invariant_of-result
invariant_of-result c = empty-sound c.args.capacity c.new.result c.new-3.result c.new-2.result c.requires c.new.ensures.items c.new-3.ensures c.new-2.ensures.empty

pub returns-clause-empty : goal.returns-clause-empty
returns-clause-empty c =
    let names = empty-names c.new-2.result c.new-2.ensures.empty in
    let none = c.new-3.ensures in
    λ i. record { capacity = c.args.capacity; journal = none i; horizon = 0; reserved = None; names = names i }
