use Rattle.std.proofs.Common.{◌≡◌, ◌||◌, ◌&&◌, not, ℕ, sym, subst, arith}
use Rattle.std.specs.List.{list_any}
use Rattle.query_normal.specs.Keys.{same_key}
use Rattle.query_normal.specs.declared.key.KeyShape.{KeyShape}
use Rattle.issued_expiries.specs.Copies.{SameCopies, is_active, unexpired}
use Rattle.issued_expiries.specs.Entries.{copies_in, held_of, AllAge, AreUnexpired}
use Rattle.issued_expiries.specs.Expiries.{Issued, is_idle}
use Rattle.issued_expiries.proofs.ViewLemmas.{aged_held, aged_idle, same_held}
use Rattle.issued_expiries.proofs.expiries.Expiries.advance.Goals as goal

-- the seconds are those of the moment
ages_at : (c : goal.After-expire) → AllAge c.seconds-seconds.result (copies_in c.self.inside.held.entries) (copies_in c.expire.new.held.entries) c.self.inside.idle.keys c.expire.new.idle.keys
ages_at c = subst (λ (n : ℕ). AllAge n (copies_in c.self.inside.held.entries) (copies_in c.expire.new.held.entries) c.self.inside.idle.keys c.expire.new.idle.keys) (sym c.seconds-seconds.ensures.same) c.expire.ensures.ages

unexpired_at : (c : goal.After-expire) → AreUnexpired c.seconds-seconds.result (copies_in c.expire.new.held.entries)
unexpired_at c = subst (λ (n : ℕ). AreUnexpired n (copies_in c.expire.new.held.entries)) (sym c.seconds-seconds.ensures.same) c.expire.ensures.unexpired

-- the copies are those that expire later
pub returns-then-self-seconds-clause-held : goal.returns-then-self-seconds-clause-held
returns-then-self-seconds-clause-held c =
    subst (λ (i : Issued). SameCopies (held_of c.seconds-seconds.result (copies_in c.expire.new.held.entries)) (unexpired c.seconds-seconds.result i.held)) c.self.view_is
    (aged_held c.self.inside.clock c.seconds-seconds.result (copies_in c.self.inside.held.entries) (copies_in c.expire.new.held.entries) _ _ (omega (arith, c.if-self-seconds.true))
    c.self.invariant.sound.distinct c.expire.ensures.distinct (ages_at c))

-- the keys that have none any more became idle
pub returns-then-self-seconds-clause-idle : goal.returns-then-self-seconds-clause-idle
returns-then-self-seconds-clause-idle c =
    subst (λ (i : Issued). (key : KeyShape) → list_any (same_key key) c.expire.new.idle.keys ≡ (is_idle i key || is_active i.held key && not (is_active (held_of c.seconds-seconds.result (copies_in c.expire.new.held.entries)) key))) c.self.view_is
    (aged_idle c.self.inside.clock c.seconds-seconds.result (copies_in c.self.inside.held.entries) (copies_in c.expire.new.held.entries) _ _
    c.self.invariant.sound.distinct c.expire.ensures.distinct c.self.invariant.sound.unexpired (unexpired_at c) (ages_at c))

-- the clock was there before
pub returns-else-self-seconds-clause-held : goal.returns-else-self-seconds-clause-held
returns-else-self-seconds-clause-held c =
    subst (λ (i : Issued). SameCopies i.held (unexpired i.clock i.held)) c.self.view_is (same_held c.self.inside.clock (copies_in c.self.inside.held.entries) c.self.invariant.sound.distinct)
