use Rattle.std.proofs.Common.{◌≡◌, subst}
use Rattle.issued_expiries.specs.Copies.{is_between}
use Rattle.issued_expiries.specs.KeyCopies.{KeptCopies, greatest}
use Rattle.issued_expiries.proofs.CopyLemmas.{greatest_read}
use Rattle.issued_expiries.proofs.sorted_copies.SortedCopies.greatest.Goals as goal

pub returns : goal.returns
returns c =
    subst (λ (kept : KeptCopies). c.greatest_between.result ≡ greatest (is_between c.args.from c.args.below) kept.copies) c.self.view_is
    (greatest_read c.self.inside.commits.items c.self.inside.tree.items _ _ _ c.self.inside.capacity c.args.from c.args.below c.first_from-first.result c.first_from-end.result c.greatest_between.result
    c.self.invariant.over c.deref.ensures.value c.deref-2.ensures.value c.deref-3.ensures.value
    c.first_from-first.ensures.within c.first_from-first.ensures.below c.first_from-first.ensures.above
    c.first_from-end.ensures.within c.first_from-end.ensures.below c.first_from-end.ensures.above c.greatest_between.ensures)
