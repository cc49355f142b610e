-- the copies are those of the state at the clock, and one more where the key gets a place
use Rattle.std.proofs.Common.{◌≡◌, ℕ, ◌+◌, ◌<◌, ◌∷◌, Bool, nat_lt, if◌then◌else◌, ap, sym, ◌∙◌, subst, arith, inl, inr}
use Rattle.std.proofs.lemmas.Bool.{lt-ltb}
use Rattle.issued_expiries.specs.Copies.{Copy, SameCopies, with_copy}
use Rattle.issued_expiries.specs.Expiries.{Issued}
use Rattle.issued_expiries.proofs.LawLemmas.{same_more, same_then}
use Rattle.hub_model.specs.Lifetime.{kept_for}
use Rattle.hub_core.specs.Absents.{absents_of}
use Rattle.hub_core.proofs.AbsentLemmas.{absent-ttl-at, absents-at, place-free}
use Rattle.hub_core.proofs.IssueLemmas.{same-with}
use Rattle.hub_core.proofs.absents.issue_absent.Goals as goal

-- ---- no place is free

pub returns-then-ttl-eq0-clause-ttl : goal.returns-then-ttl-eq0-clause-ttl
returns-then-ttl-eq0-clause-ttl c = λ t now are.
    sym c.if-ttl-eq0.true
    ∙ absent-ttl-at c.args.config.now c.args.absents.now c.advance.new.self c.args.key.now c.args.clock c.args.estimated c.active-active.result c.active_count-count.result c.absent_ttl-ttl.result t
    c.advance.ensures.clock c.advance.ensures.held now are c.active-active.ensures c.active_count-count.ensures.count c.absent_ttl-ttl.ensures.same

pub returns-then-ttl-eq0-clause-copies : goal.returns-then-ttl-eq0-clause-copies
returns-then-ttl-eq0-clause-copies c = λ t now are.
    let at = absents-at c.args.absents.now c.advance.new.self c.args.clock t c.advance.ensures.clock c.advance.ensures.held now are in (
      ap (λ (a : Issued). a.clock) c.forget_idle.ensures ∙ ap (λ (a : Issued). a.clock) c.forget_reserved.ensures ∙ at.0,
      subst (λ (a : Issued). SameCopies a.held (absents_of t)) (sym c.forget_idle.ensures) (subst (λ (a : Issued). SameCopies a.held (absents_of t)) (sym c.forget_reserved.ensures) at.1),
    )

-- ---- the key has a place

pub returns-clause-ttl : goal.returns-clause-ttl
returns-clause-ttl c = λ t now are.
    absent-ttl-at c.args.config.now c.args.absents.now c.advance.new.self c.args.key.now c.args.clock c.args.estimated c.active-active.result c.active_count-count.result c.absent_ttl-ttl.result t
    c.advance.ensures.clock c.advance.ensures.held now are c.active-active.ensures c.active_count-count.ensures.count c.absent_ttl-ttl.ensures.same

pub returns-clause-copies : goal.returns-clause-copies
returns-clause-copies c = λ t now are.
    let at = absents-at c.args.absents.now c.advance.new.self c.args.clock t c.advance.ensures.clock c.advance.ensures.held now are in
    let some : 0 < c.absent_ttl-ttl.result = omega (arith, c.if-ttl-eq0.false) in
    let until : ℕ = c.args.clock + kept_for c.args.config.now c.absent_ttl-ttl.result in
    let until_is : c.seconds.result + c.kept_for.result ≡ until = omega (arith, c.seconds.ensures.same, c.kept_for.ensures) in
    let copy : Copy = (c.args.key.now, c.args.commit, until) in
    let clock : c.advance.new.self.clock ≡ c.args.clock = at.0 ∙ sym now in
    let late : c.advance.new.self.clock < until = omega (arith, some, clock) in
    let more : SameCopies c.issue.new.self.held (with_copy c.advance.new.self.clock copy c.advance.new.self.held) =
    subst (λ (n : ℕ). SameCopies c.issue.new.self.held (with_copy c.advance.new.self.clock (c.args.key.now, c.args.commit, n) c.advance.new.self.held)) until_is c.issue.ensures.held in
    let issued : SameCopies c.issue.new.self.held (copy ∷ absents_of t) =
    same-with c.advance.new.self.clock copy (absents_of t) c.issue.new.self.held late
    (same_then c.issue.new.self.held (with_copy c.advance.new.self.clock copy c.advance.new.self.held) (with_copy c.advance.new.self.clock copy (absents_of t)) more
    (same_more c.advance.new.self.held (absents_of t) c.advance.new.self.clock copy at.1)) in (
      ap (λ (a : Issued). a.clock) c.release.ensures ∙ c.issue.ensures.clock ∙ at.0,
      subst (λ (b : Bool). SameCopies c.release.new.absents.held (if b then copy ∷ absents_of t else absents_of t)) (sym (lt-ltb 0 c.absent_ttl-ttl.result some))
          (subst (λ (a : Issued). SameCopies a.held (copy ∷ absents_of t)) (sym c.release.ensures) issued),
    )

pub returns-clause-some : goal.returns-clause-some
returns-clause-some c = λ some. (place-free c.args.config.now c.active-active.result c.active_count-count.result c.args.estimated (omega (arith, some, c.absent_ttl-ttl.ensures.same))).0

-- a key more is not beyond what the expiries take
pub issue-requires-clause-few : goal.issue-requires-clause-few
issue-requires-clause-few c =
    let most = c.absent_ttl-ttl.ensures.within.active_most in
    elim (place-free c.args.config.now c.active-active.result c.active_count-count.result c.args.estimated (omega (arith, c.if-ttl-eq0.false, c.absent_ttl-ttl.ensures.same))).1 [
      | inl active ↦ inl (sym c.active-active.ensures ∙ active)
      | inr below ↦ inr (omega (arith, below, most, c.active_count-count.ensures.count))
    ]
