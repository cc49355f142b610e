use Rattle.std.proofs.Common.{sym, ap, ◌∙◌}
use Rattle.issued_expiries.specs.Copies.{is_active}
use Rattle.issued_expiries.specs.Entries.{copies_in}
use Rattle.issued_expiries.specs.Expiries.{Issued}
use Rattle.issued_expiries.proofs.HeldLemmas.{found_shown}
use Rattle.issued_expiries.proofs.ViewLemmas.{active_kept}
use Rattle.issued_expiries.proofs.expiries.Expiries.active.Goals as goal

-- a key is active where it is held
pub returns : goal.returns
returns c =
    c.contains.ensures
    ∙ found_shown c.self.inside.held.entries c.args.key.now
    ∙ sym (active_kept c.self.inside.clock (copies_in c.self.inside.held.entries) c.args.key.now c.self.invariant.sound.distinct c.self.invariant.sound.unexpired)
    ∙ ap (λ (i : Issued). is_active i.held c.args.key.now) c.self.view_is
