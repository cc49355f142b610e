-- a copy that is there may be kept as long, so the read adds nothing
use Rattle.std.proofs.Common.{◌+◌, ◌<◌, ◌≤◌, ◌∷◌, if◌then◌else◌, nat_lt, Bool, ℕ, length, unwrap_or, refl, sym, ◌∙◌, subst, arith, inl, inr}
use Rattle.std.proofs.lemmas.Bool.{cases_Bool}
use Rattle.issued_expiries.specs.Copies.{SameCopies, latest_of}
use Rattle.ttl_estimator.specs.Estimator.{lifetime}
use Rattle.hub_model.specs.Lifetime.{kept_for}
use Rattle.hub_core.proofs.IssueLemmas.{known-active, same-known}
use Rattle.hub_core.proofs.ReadLemmas.{ids-none}
use Rattle.hub_core.proofs.reading.known_lifetime.Goals as goal

pub returns-clause-passes : goal.returns-clause-passes
returns-clause-passes c = c.has_reached.ensures.passes c.if-not-has_reached.false

-- the commits asked for are the last one alone
near : (c : goal.Else-until-seconds) → c.saturating_add.result ≤ c.count-commit.result + 1
near c = omega (arith, c.saturating_add.ensures)

-- its copy, until when it may be kept
known : (c : goal.Else-until-seconds) → 0 < unwrap_or (latest_of c.args.copies.now.copies c.args.key.now c.count-commit.result c.saturating_add.result) 0
known c = omega (arith, c.if-until-eq0.false, c.latest_until-until.ensures)

pub returns-clause-ttl : goal.returns-clause-ttl
returns-clause-ttl c =
    c.ttl-ttl.ensures
    ∙ (let ids = ids-none c.args.key.now c.args.book.now.journal c.requires in
    let clock = c.clock-clock.ensures in
    let active = sym (known-active c.args.copies.now.copies c.args.key.now c.count-commit.result c.saturating_add.result (near c) (known c)) in
    let count = c.active_count.ensures in
    (λ i. lifetime c.args.estimator.now c.args.key.now (ids i) (clock i) (active i) (count i)))

pub returns-clause-same : goal.returns-clause-same
returns-clause-same c =
    let copies = c.args.copies.now.copies in
    let key = c.args.key.now in
    let last : c.args.copies.now.clock + kept_for c.args.copies.now.setting c.ttl-ttl.result ≤ unwrap_or (latest_of copies key c.count-commit.result c.saturating_add.result) 0 = omega (arith, c.latest_until-until.ensures, c.clock-clock.ensures, c.seconds.ensures.same, c.kept_for.ensures, c.if-until-seconds.false) in
    elim (cases_Bool (nat_lt 0 c.ttl-ttl.result)) [
      | inl some ↦ (
          subst (λ (b : Bool). SameCopies copies (if b then (key, length c.args.book.now.journal, c.args.copies.now.clock + kept_for c.args.copies.now.setting c.ttl-ttl.result) ∷ copies else copies)) (sym some)
          (subst (λ (n : ℕ). SameCopies copies ((key, n, c.args.copies.now.clock + kept_for c.args.copies.now.setting c.ttl-ttl.result) ∷ copies)) c.count-commit.ensures.count
          (same-known copies key c.count-commit.result c.saturating_add.result (near c) (known c) (c.args.copies.now.clock + kept_for c.args.copies.now.setting c.ttl-ttl.result) last)))
      | inr none ↦ subst (λ (b : Bool). SameCopies copies (if b then (key, length c.args.book.now.journal, c.args.copies.now.clock + kept_for c.args.copies.now.setting c.ttl-ttl.result) ∷ copies else copies)) (sym none) (λ other test. refl)
    ]
