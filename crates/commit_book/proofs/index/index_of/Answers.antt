-- the likely index is that of the name which stands there, since no name is there twice
use Rattle.std.proofs.Common.{sym, ap, ◌∙◌, slice_get}
use Rattle.commit_book.proofs.NameLemmas.{collection-place}
use Rattle.commit_book.proofs.PlaceLemmas.{likely-place}
use Rattle.commit_book.proofs.index.index_of.Goals as goal

pub returns-then-eq : goal.returns-then-eq
returns-then-eq c =
    likely-place c.args.collections.now c.args.name.now c.in-Some.there.now c.args.likely c.in-Some.field-0-1.now c.as_slice.ensures.unique
    (ap (λ es. slice_get es c.args.likely) (sym c.as_slice.ensures.entries) ∙ sym c.in-Some.ensures.entry) (sym c.eq.ensures ∙ c.if-eq.true)

pub returns : goal.returns
returns c = c.get_index_of.ensures.index ∙ sym (collection-place c.args.collections.now c.args.name.now)
