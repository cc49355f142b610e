use Rattle.std.proofs.Common.{◌≡◌, false, subst, IfSome}
use Rattle.issued_expiries.specs.Copies.{is_active}
use Rattle.issued_expiries.specs.Entries.{copies_in}
use Rattle.issued_expiries.specs.Expiries.{Issued}
use Rattle.issued_expiries.proofs.IssueLemmas.{popped_inactive}
use Rattle.issued_expiries.proofs.expiries.Expiries.next_idle.Goals as goal

-- the key that was removed has no copy
pub returns-clause-inactive : goal.returns-clause-inactive
returns-clause-inactive c =
    subst (λ (i : Issued). IfSome c.take_one.result (λ key. is_active i.held key ≡ false)) c.self.view_is
    (popped_inactive c.take_one.result c.self.inside.clock (copies_in c.self.inside.held.entries) c.self.inside.idle.keys c.self.invariant.sound.distinct c.self.invariant.sound.unexpired c.self.invariant.sound.gone c.take_one.ensures.some)
