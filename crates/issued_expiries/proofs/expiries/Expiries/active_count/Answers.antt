use Rattle.std.proofs.Common.{◌<◌, sym, ap, ◌∙◌, subst, All}
use Rattle.issued_expiries.specs.Copies.{Copy, active_keys}
use Rattle.issued_expiries.specs.Entries.{copies_in}
use Rattle.issued_expiries.specs.Expiries.{Issued}
use Rattle.issued_expiries.proofs.HeldLemmas.{length_shown}
use Rattle.issued_expiries.proofs.ViewLemmas.{active_keys_kept, held_later}
use Rattle.issued_expiries.proofs.expiries.Expiries.active_count.Goals as goal

-- as many keys are held as are active
pub returns-clause-count : goal.returns-clause-count
returns-clause-count c =
    c.len.ensures.len
    ∙ sym (length_shown c.self.inside.held.entries)
    ∙ active_keys_kept c.self.inside.clock (copies_in c.self.inside.held.entries) c.self.invariant.sound.distinct c.self.invariant.sound.unexpired
    ∙ ap (λ (i : Issued). active_keys i.held) c.self.view_is

pub returns-clause-unexpired : goal.returns-clause-unexpired
returns-clause-unexpired c = subst (λ (i : Issued). All (λ (copy : Copy). i.clock < copy.2) i.held) c.self.view_is (held_later c.self.inside.clock (copies_in c.self.inside.held.entries))
