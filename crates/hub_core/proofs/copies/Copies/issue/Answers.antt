-- a copy that may be kept at all is later than the clock, and its key was active or one more may be
use Rattle.std.proofs.Common.{◌≡◌, ℕ, ◌<◌, ◌+◌, ◌∷◌, Bool, false, not, if◌then◌else◌, nat_lt, ◌&&◌, ap, sym, ◌∙◌, subst, arith}
use Rattle.std.specs.List.{list_any}
use Rattle.std.proofs.lemmas.Bool.{lt-ltb}
use Rattle.std.proofs.Math.Bool.{and-false}
use Rattle.query_normal.specs.Keys.{same_key}
use Rattle.issued_expiries.specs.Copies.{SameCopies, is_active, active_keys}
use Rattle.hub_model.specs.Lifetime.{kept_for}
use Rattle.issued_expiries.specs.Expiries.{Issued}
use Rattle.hub_core.specs.CopiesView.{CopiesView, may_issue, is_idle, IsReadyFor}
use Rattle.hub_core.proofs.IssueLemmas.{same-with, used-up}
use Rattle.hub_core.proofs.SoundLemmas.{sound-more, may-issue}
use Rattle.hub_core.proofs.copies.Copies.issue.Goals as goal

-- the copy is later than the clock
later : (c : goal.After-issue) → 0 < c.args.ttl → c.self.inside.issued.clock < c.seconds.result + c.kept_for.result
later c some = omega (arith, some, c.seconds.ensures.same, c.clock.ensures, c.kept_for.ensures)

pub invariant_of-self-2 : goal.invariant_of-self-2
invariant_of-self-2 c =
    let some : 0 < c.args.ttl = omega (arith, c.if-ttl-eq0.false) in
    let may = may-issue (is_active c.self.inside.issued.held c.args.key.now) (active_keys c.self.inside.issued.held) c.self.inside.config.active
    (ap (λ (h : CopiesView). may_issue h c.args.key.now) c.self.view_is ∙ c.requires.allowed some) in
    let late = later c some in
    sound-more _ c.self.inside.issued c.self.inside.outdated c.self.invariant c.issue.new.self (c.args.key.now, c.args.commit, c.seconds.result + c.kept_for.result) late c.issue.ensures.clock c.issue.ensures.held may

pub returns-clause-copies : goal.returns-clause-copies
returns-clause-copies c =
    let some : 0 < c.args.ttl = omega (arith, c.if-ttl-eq0.false) in
    let inside = c.self.inside.issued in
    let until : c.seconds.result + c.kept_for.result ≡ inside.clock + kept_for c.self.inside.config c.args.ttl = omega (arith, c.seconds.ensures.same, c.clock.ensures, c.kept_for.ensures) in
    let more : SameCopies c.issue.new.self.held ((c.args.key.now, c.args.commit, inside.clock + kept_for c.self.inside.config c.args.ttl) ∷ inside.held) =
    subst (λ (n : ℕ). SameCopies c.issue.new.self.held ((c.args.key.now, c.args.commit, n) ∷ inside.held)) until
    (same-with inside.clock (c.args.key.now, c.args.commit, c.seconds.result + c.kept_for.result) inside.held c.issue.new.self.held (later c some) c.issue.ensures.held) in
    subst (λ (h : CopiesView). SameCopies c.issue.new.self.held (if nat_lt 0 c.args.ttl then (c.args.key.now, c.args.commit, h.clock + kept_for h.setting c.args.ttl) ∷ h.copies else h.copies)) c.self.view_is
    (subst (λ (b : Bool). SameCopies c.issue.new.self.held (if b then (c.args.key.now, c.args.commit, inside.clock + kept_for c.self.inside.config c.args.ttl) ∷ inside.held else inside.held)) (sym (lt-ltb 0 c.args.ttl some)) more)

pub returns-clause-ready : goal.returns-clause-ready
returns-clause-ready c =
    let ready = subst (λ (h : CopiesView). IsReadyFor h c.args.key.now) (sym c.self.view_is) c.requires.ready in
    used-up c.self.inside.issued.reserved c.issue.new.self.reserved c.args.key.now ready.alone c.issue.ensures.reserved

pub returns-clause-idle : goal.returns-clause-idle
returns-clause-idle c = λ other.
    let some : 0 < c.args.ttl = omega (arith, c.if-ttl-eq0.false) in
    let late = later c some in
    c.issue.ensures.idle other
    ∙ ap (λ (h : CopiesView). not (same_key c.args.key.now other && nat_lt c.self.inside.issued.clock (c.seconds.result + c.kept_for.result)) && is_idle h other) c.self.view_is
    ∙ ap (λ (b : Bool). not (same_key c.args.key.now other && b) && is_idle c.args.self.now other) (lt-ltb c.self.inside.issued.clock (c.seconds.result + c.kept_for.result) late ∙ sym (lt-ltb 0 c.args.ttl some))

-- where nothing is issued the idle keys stay
pub returns-then-ttl-eq0-clause-idle : goal.returns-then-ttl-eq0-clause-idle
returns-then-ttl-eq0-clause-idle c = λ other.
    let none : nat_lt 0 c.args.ttl ≡ false = ap (nat_lt 0) c.if-ttl-eq0.true in
    ap (λ (i : Issued). list_any (same_key other) i.idle) c.forget_reserved.ensures
    ∙ ap (λ (h : CopiesView). is_idle h other) c.self.view_is
    ∙ sym (ap (λ (b : Bool). not (same_key c.args.key.now other && b) && is_idle c.args.self.now other) none ∙ ap (λ (b : Bool). not b && is_idle c.args.self.now other) (and-false (same_key c.args.key.now other)))
