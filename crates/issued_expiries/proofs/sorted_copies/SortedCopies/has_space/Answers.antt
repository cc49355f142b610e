use Rattle.std.proofs.Common.{◌≡◌, ℕ, ltb, length, sym, ap, ◌∙◌, arith}
use Rattle.issued_expiries.specs.KeyCopies.{KeptCopies}
use Rattle.issued_expiries.proofs.CopyLemmas.{length-paired}
use Rattle.issued_expiries.proofs.sorted_copies.SortedCopies.has_space.Goals as goal

pub returns : goal.returns
returns c =
    let len : c.len.result ≡ length c.self.inside.commits.items = omega (arith, c.len.ensures) in
    ap (λ (n : ℕ). ltb n c.self.inside.capacity) (len ∙ sym (length-paired c.self.inside.commits.items c.self.inside.tree.items c.self.inside.capacity))
    ∙ ap (λ (kept : KeptCopies). ltb (length kept.copies) kept.capacity) c.self.view_is
