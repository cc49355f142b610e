use Rattle.std.proofs.Common.{◌≡◌, length, ap, arith}
use Rattle.issued_expiries.specs.KeyCopies.{KeptCopies}
use Rattle.issued_expiries.proofs.KeepLemmas.{filled, later_space}
use Rattle.issued_expiries.proofs.sorted_copies.SortedCopies.without_expired.Goals as goal

pub returns-clause-space : goal.returns-clause-space
returns-clause-space c =
    let less = c.in_ok-capacity.ensures in
    later_space c.fill.new.kept.items _ c.in_ok-capacity.capacity c.in_ok-capacity.capacity c.count_later.result (omega (arith, c.fill.ensures.count, c.count_later.ensures)) (omega (arith, less))

pub returns-clause-later : goal.returns-clause-later
returns-clause-later c =
    let same : length c.fill.new.tree ≡ length c.in_ok-tree.tree.items = omega (arith, c.fill.auto.tree, c.deref_mut.ensures.len) in
    let full : c.in_ok-tree.tree.len ≡ length c.in_ok-tree.tree.items = omega arith in
    let len : c.len.result ≡ length c.self.inside.commits.items = omega (arith, c.len.ensures) in
    let sized = c.self.invariant.over.sized in
    let fits = c.self.invariant.over.fits in
    filled _ _ _ _ _ _ _ _ _ _ _ c.args.clock _ same full c.fill.ensures.copies c.deref.ensures.value c.deref-2.ensures.value len (omega (arith, sized, fits, len)) (ap (λ (kept : KeptCopies). kept.copies) c.self.view_is)
