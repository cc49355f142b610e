-- a lifetime that is not bounded is the estimated one, and no copy is one of an absent record
use Rattle.std.proofs.Common.{◌≡◌, ◌+◌, ◌∷◌, true, nat_lt, if◌then◌else◌, length, sym, ◌∙◌, subst}
use Rattle.issued_expiries.specs.Copies.{SameCopies}
use Rattle.hub_model.specs.Copies.{active_keys, is_active}
use Rattle.hub_model.specs.Lifetime.{absent_ttl, is_absent, is_bounded, kept_for, of_absents, ttl_of}
use Rattle.hub_model.specs.Setting.{Setting}
use Rattle.hub_core.specs.Absents.{absents_of}
use Rattle.hub_core.proofs.AbsentLemmas.{absents-issued, absents-there, absents-unbounded, ttl-bounded, ttl-unbounded}
use Rattle.hub_core.proofs.absents.bound.Goals as goal

pub returns-clause-ttl : goal.returns-clause-ttl
returns-clause-ttl c = λ t now have bounded estimated.
    estimated ∙ sym (ttl-unbounded c.args.copies.now.setting c.args.key.now c.args.commit t (sym bounded ∙ c.if-bounded.false))

pub returns-clause-absents : goal.returns-clause-absents
returns-clause-absents c = λ t now have bounded estimated.
    absents-unbounded c.args.copies.now.setting c.args.key.now c.args.commit t c.args.absents.now have (sym bounded ∙ c.if-bounded.false)

pub returns-clause-ready : goal.returns-clause-ready
returns-clause-ready c = c.requires.alone c.if-bounded.false

-- one that is bounded follows from the copies of absent records at the clock
pub returns-then-bounded-clause-ttl : goal.returns-then-bounded-clause-ttl
returns-then-bounded-clause-ttl c = λ t now have bounded estimated.
    let g = c.args.copies.now.setting in
    let some : is_bounded g (is_absent t c.args.key.now c.args.commit) ≡ true = sym bounded ∙ c.if-bounded.true in
    c.issue_absent.ensures.ttl t (c.clock.ensures ∙ now) (absents-there g c.args.absents.now t (is_absent t c.args.key.now c.args.commit) have some)
    ∙ (let config = c.config-config.ensures in (λ i. absent_ttl (config i) (is_active (of_absents t) c.args.key.now) (length (active_keys (of_absents t))) (estimated i)))
    ∙ sym (ttl-bounded g c.args.key.now c.args.commit t some)

pub returns-then-bounded-clause-absents : goal.returns-then-bounded-clause-absents
returns-then-bounded-clause-absents c = λ t now have bounded estimated.
    let g = c.args.copies.now.setting in
    let some : is_bounded g (is_absent t c.args.key.now c.args.commit) ≡ true = sym bounded ∙ c.if-bounded.true in
    let at = c.clock.ensures ∙ now in
    let issued = c.issue_absent.ensures.copies t at (absents-there g c.args.absents.now t (is_absent t c.args.key.now c.args.commit) have some) in
    absents-issued g c.args.key.now c.args.commit t c.issue_absent.new.absents c.clock.result c.issue_absent.result some at
    (returns-then-bounded-clause-ttl c t now have bounded estimated) issued.0
    (subst (λ (x : Setting). SameCopies c.issue_absent.new.absents.held (if nat_lt 0 c.issue_absent.result then (c.args.key.now, c.args.commit, c.clock.result + kept_for x c.issue_absent.result) ∷ absents_of t else absents_of t)) c.config-config.ensures issued.1)
