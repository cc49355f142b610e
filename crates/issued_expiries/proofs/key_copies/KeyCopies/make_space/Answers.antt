use Rattle.std.proofs.Common.{◌<◌, sym, ap, ◌∙◌, subst}
use Rattle.issued_expiries.specs.KeyCopies.{KeptCopies, last_until}
use Rattle.issued_expiries.proofs.CopyLemmas.{last_kept}
use Rattle.issued_expiries.proofs.key_copies.KeyCopies.make_space.Goals as goal

pub returns-clause-last : goal.returns-clause-last
returns-clause-last c =
    let late = subst (λ (kept : KeptCopies). c.args.clock < last_until kept) (sym c.self.view_is) c.requires in
    last_kept c.args.clock c.self.inside.until c.self.inside.others.copies c.make_space.new.self.copies late c.make_space.ensures.later
    ∙ ap last_until c.self.view_is
