-- the copies and the invalidated keys move to the same clock
use Rattle.std.proofs.Common.{ℕ, max, ap, ◌∙◌, subst, rules}
use Rattle.issued_expiries.specs.Copies.{SameCopies, unexpired}
use Rattle.expiring_filter.specs.Filter.{Filter}
use Rattle.expiring_filter.specs.Held.{Expires}
use Rattle.hub_core.specs.CopiesView.{CopiesView, IsSound, while_later, until_in}
use Rattle.hub_core.proofs.SoundLemmas.{sound-later}
use Rattle.hub_core.proofs.InvalidationLemmas.{until-expired}
use Rattle.hub_core.proofs.copies.Copies.advance.Goals as goal

-- what expires by that clock
expired : (c : goal.After-advance-2) → Expires c.advance.new.self.clock c.self.inside.outdated.held c.advance-2.new.self.held
expired c = subst (λ (n : ℕ). Expires n c.self.inside.outdated.held c.advance-2.new.self.held) c.clock-clock.ensures c.advance-2.ensures.expired

-- they are sound
sound : (c : goal.After-advance-2) → IsSound c.self.inside.config c.advance.new.self c.advance-2.new.self
sound c =
    sound-later _ c.self.inside.issued c.self.inside.outdated c.self.invariant c.advance.new.self c.advance-2.new.self
    (ap (λ (f : Filter). f.log2_bits) c.advance-2.ensures.rest) (ap (λ (f : Filter). f.hashes) c.advance-2.ensures.rest) c.advance.ensures.held (expired c)

pub invariant_of-self : goal.invariant_of-self
invariant_of-self c = sound c

pub returns-clause-passes : goal.returns-clause-passes
returns-clause-passes c = record {
  clock = c.advance.ensures.clock ∙ ap (λ (h : CopiesView). max h.clock c.args.moment) c.self.view_is;
  copies = subst (λ (h : CopiesView). SameCopies c.advance.new.self.held (unexpired c.advance.new.self.clock h.copies)) c.self.view_is c.advance.ensures.held;
  outdated = λ key.
      until-expired c.advance.new.self.clock c.self.inside.outdated.held c.advance-2.new.self.held (expired c) key
      ∙ ap (λ (h : CopiesView). while_later c.advance.new.self.clock (until_in h.outdated key)) c.self.view_is;
  rest = search rules;
}
