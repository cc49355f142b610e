-- the copy is issued at the moment's clock, and what the read started is kept with it
use Rattle.std.proofs.Common.{◌≡◌, ◌<◌, ◌+◌, ◌∷◌, nat_lt, if◌then◌else◌, ℕ, Bool, List, [], length, max, ap, sym, ◌∙◌, subst}
use Rattle.query_normal.specs.declared.key.KeyShape.{KeyShape}
use Rattle.ttl_estimator.specs.Estimator.{Estimated, lifetime}
use Rattle.issued_expiries.specs.Copies.{SameCopies, active_keys}
use Rattle.issued_expiries.specs.Expiries.{Issued}
use Rattle.commit_book.specs.declared.change.Change.{Change}
use Rattle.hub_model.specs.Journal.{result_at}
use Rattle.hub_model.specs.Lifetime.{estimated_ttl, is_absence, is_absent, is_bounded, kept_for, limits_of, ttl_of}
use Rattle.hub_model.specs.Setting.{Setting}
use Rattle.hub_model.specs.State.{State, at_moment}
use Rattle.hub_model.specs.Step.{has_read}
use Rattle.active_queries.specs.Following.{Following}
use Rattle.hub_core.specs.declared.lifetimes.Lifetimes.{Lifetimes}
use Rattle.hub_core.specs.Absents.{HasAbsents}
use Rattle.hub_core.specs.HubState.{HasCopies, HasEstimates, IsAt, hub_of}
use Rattle.hub_core.proofs.AbsentLemmas.{absents-moved}
use Rattle.hub_core.specs.CopiesView.{CopiesView}
use Rattle.hub_core.specs.ActiveQueries.{KeepsQueries}
use Rattle.hub_core.specs.Lifetimes.{ids_at}
use Rattle.hub_core.proofs.HubLemmas.{setting-passed, hub-read}
use Rattle.hub_core.proofs.LifeLemmas.{estimates-read, lifetime-at, lifetimes-absents, lifetimes-read, may-issue, noted-as}
use Rattle.hub_core.proofs.ReadLemmas.{kept-passed, kept-issued, may-be-added}
use Rattle.hub_core.proofs.StateLemmas.{copies-later}
use Rattle.hub_core.proofs.reading.issue_copy.Goals as goal

setting : (c : goal.After-drop_idle) → c.advance.new.self.setting ≡ c.args.copies.now.setting
setting c = setting-passed c.args.copies.now c.advance.new.self c.args.moment c.advance.ensures.passes

now : (c : goal.After-drop_idle) (front : ℕ) (s : State) → IsAt (hub_of c.args.book.now front c.args.copies.now c.args.life.now) s → c.advance.new.self.clock ≡ (at_moment s c.args.moment).clock
now c front s at = c.advance.ensures.passes.clock ∙ ap (λ (n : ℕ). max n c.args.moment) at.time.clock

-- the copies when their clock has moved are those of the state then
moved : (c : goal.After-drop_idle) (front : ℕ) (s : State) → IsAt (hub_of c.args.book.now front c.args.copies.now c.args.life.now) s → HasCopies c.advance.new.self.copies (at_moment s c.args.moment)
moved c front s at = copies-later c.args.copies.now.copies c.advance.new.self.copies c.advance.new.self.clock c.args.moment s at.copies c.advance.ensures.passes.copies (now c front s at)

-- the estimated lifetime is that of the state
estimated : (c : goal.After-drop_idle) (front : ℕ) (s : State) → IsAt (hub_of c.args.book.now front c.args.copies.now c.args.life.now) s → c.lifetime-estimated.result ≡ estimated_ttl c.args.copies.now.setting (at_moment s c.args.moment) c.args.key.now (length c.args.book.now.journal)
estimated c front s at =
    c.lifetime-estimated.ensures
    ∙ ap (λ (active : Bool). lifetime c.args.life.now.estimator c.args.key.now (ids_at c.args.key.now c.args.book.now.journal) c.advance.new.self.clock active (active_keys c.advance.new.self.copies)) c.is_active-active.ensures
    ∙ lifetime-at c.advance.new.self c.args.life.now.estimator s c.args.moment c.args.key.now c.args.copies.now.setting c.args.book.now.journal (moved c front s at) (now c front s at) at.book.rows c.requires.limits at.writes at.estimates

-- whether it is bounded too
bounded : (c : goal.After-drop_idle) (front : ℕ) (s : State) → IsAt (hub_of c.args.book.now front c.args.copies.now c.args.life.now) s → c.args.bounded ≡ is_bounded c.args.copies.now.setting (is_absent (at_moment s c.args.moment) c.args.key.now (length c.args.book.now.journal))
bounded c front s at = c.requires.bounded ∙ ap (λ (xs : List Change). is_bounded c.args.copies.now.setting (is_absence (result_at c.args.key.now xs (length c.args.book.now.journal)))) at.book.rows

-- what the state has when the clock has moved, for the configuration and the commit that were asked for
module _ (c : goal.After-drop_idle) (front : ℕ) (s : State) (at : IsAt (hub_of c.args.book.now front c.args.copies.now c.args.life.now) s) where
  abbrev t : State
  t = at_moment s c.args.moment

  last : c.count-commit.result ≡ length c.args.book.now.journal
  last = c.count-commit.ensures.count

  absents-then : HasAbsents c.advance.new.self.setting c.args.life.now.absents t
  absents-then = subst (λ (g : Setting). HasAbsents g c.args.life.now.absents t) (sym (setting c)) (absents-moved c.args.copies.now.setting c.args.life.now.absents s c.args.moment at.absents)

  bounded-then : c.args.bounded ≡ is_bounded c.advance.new.self.setting (is_absent t c.args.key.now c.count-commit.result)
  bounded-then = bounded c front s at ∙ (let g = sym (setting c) in let n = sym last in (λ i. is_bounded (g i) (is_absent t c.args.key.now (n i))))

  estimated-then : c.lifetime-estimated.result ≡ estimated_ttl c.advance.new.self.setting t c.args.key.now c.count-commit.result
  estimated-then = estimated c front s at ∙ (let g = sym (setting c) in let n = sym last in (λ i. estimated_ttl (g i) t c.args.key.now (n i)))

  -- the lifetime is that of the state
  ttl : c.bound-ttl.result ≡ ttl_of c.args.copies.now.setting t c.args.key.now (length c.args.book.now.journal)
  ttl = c.bound-ttl.ensures.ttl t (now c front s at) absents-then bounded-then estimated-then ∙ (let g = setting c in (λ i. ttl_of (g i) t c.args.key.now (last i)))

  -- and so are the copies of absent records
  absents-now : HasAbsents c.args.copies.now.setting c.bound-ttl.new.absents (has_read c.args.copies.now.setting c.args.key.now (length c.args.book.now.journal) t)
  absents-now =
      subst (λ (n : ℕ). HasAbsents c.args.copies.now.setting c.bound-ttl.new.absents (has_read c.args.copies.now.setting c.args.key.now n t)) last
      (subst (λ (g : Setting). HasAbsents g c.bound-ttl.new.absents (has_read g c.args.key.now c.count-commit.result t)) (setting c)
      (c.bound-ttl.ensures.absents t (now c front s at) absents-then bounded-then estimated-then))

pub returns-clause-ttl : goal.returns-clause-ttl
returns-clause-ttl c = ttl c

-- what is kept of estimates is that of the state
estimates : (c : goal.After-drop_idle) (front : ℕ) (s : State) → c.args.copies.now.idle ≡ [] → IsAt (hub_of c.args.book.now front c.args.copies.now c.args.life.now) s → HasEstimates c.drop_idle.new.life.estimator.keys (has_read c.args.copies.now.setting c.args.key.now (length c.args.book.now.journal) (at_moment s c.args.moment))
estimates c front s idle at =
    estimates-read c.args.copies.now c.advance.new.self c.issue.new.self c.args.moment c.advance.ensures.passes idle c.args.key.now (length c.args.book.now.journal) c.bound-ttl.result c.advance.ensures.idle c.issue.ensures.idle
    c.args.copies.now.setting s c.args.life.now.estimator.keys c.note_read.new.estimator.keys c.drop_idle.new.life.estimator.keys at.copies (moved c front s at) (now c front s at) (ttl c front s at) at.estimates
    (noted-as c.args.life.now.estimator.keys c.note_read.new.estimator.keys c.args.key.now c.bound-ttl.result c.is_active-active.result _ c.clock.result c.advance.new.self.clock c.is_active-active.ensures
    (c.clock.ensures ∙ ap (λ (h : CopiesView). h.clock) c.issue.ensures.rest) c.note_read.ensures.kept)
    c.drop_idle.ensures.dropped.kept

-- the copy that was issued
issued : (c : goal.After-drop_idle) → SameCopies c.issue.new.self.copies (if nat_lt 0 c.bound-ttl.result then (c.args.key.now, length c.args.book.now.journal, c.advance.new.self.clock + kept_for c.advance.new.self.setting c.bound-ttl.result) ∷ c.advance.new.self.copies else c.advance.new.self.copies)
issued c = subst (λ (n : ℕ). SameCopies c.issue.new.self.copies (if nat_lt 0 c.bound-ttl.result then (c.args.key.now, n, c.advance.new.self.clock + kept_for c.advance.new.self.setting c.bound-ttl.result) ∷ c.advance.new.self.copies else c.advance.new.self.copies)) c.count-commit.ensures.count c.issue.ensures.copies

pub returns-clause-absents_idle : goal.returns-clause-absents_idle
returns-clause-absents_idle c = ap (λ (l : Lifetimes). l.absents.idle) c.drop_idle.ensures.dropped.rest ∙ c.bound-ttl.ensures.idle

pub returns-clause-absents_ready : goal.returns-clause-absents_ready
returns-clause-absents_ready c = ap (λ (l : Lifetimes). l.absents.reserved) c.drop_idle.ensures.dropped.rest ∙ c.bound-ttl.ensures.ready

pub returns-clause-issued : goal.returns-clause-issued
returns-clause-issued c = λ front s within idle at.
    hub-read c.args.book.now front c.args.copies.now c.args.life.now s at c.advance.new.self c.issue.new.self c.drop_idle.new.copies c.drop_idle.new.life c.args.key.now c.args.copies.now.setting (length c.args.book.now.journal) c.bound-ttl.result c.args.moment
    c.advance.ensures.passes within (ttl c front s at)
    (subst (λ (g : Setting). SameCopies c.issue.new.self.copies (if nat_lt 0 c.bound-ttl.result then (c.args.key.now, length c.args.book.now.journal, c.advance.new.self.clock + kept_for g c.bound-ttl.result) ∷ c.advance.new.self.copies else c.advance.new.self.copies)) (setting c) (issued c))
    (ap (λ (h : CopiesView). h.clock) c.issue.ensures.rest) (ap (λ (h : CopiesView). h.outdated) c.issue.ensures.rest) c.drop_idle.ensures.rest
    (ap (λ (h : CopiesView). h.setting) c.issue.ensures.rest ∙ setting c)
    (ap (λ (l : Lifetimes). l.estimator.records) c.drop_idle.ensures.dropped.rest ∙ ap (λ (e : Estimated). e.records) c.note_read.ensures.rest)
    (ap (λ (l : Lifetimes). l.purges.texts) c.drop_idle.ensures.dropped.rest)
    (subst (λ (a : Issued). HasAbsents c.args.copies.now.setting a (has_read c.args.copies.now.setting c.args.key.now (length c.args.book.now.journal) (at_moment s c.args.moment))) (sym (ap (λ (l : Lifetimes). l.absents) c.drop_idle.ensures.dropped.rest)) (absents-now c front s at))
    (estimates c front s idle at)

pub returns-clause-writes : goal.returns-clause-writes
returns-clause-writes c = ap (λ (l : Lifetimes). l.estimator.records) c.drop_idle.ensures.dropped.rest ∙ ap (λ (e : Estimated). e.records) c.note_read.ensures.rest

pub returns-clause-lifetimes : goal.returns-clause-lifetimes
returns-clause-lifetimes c = λ front within idle keeps.
    lifetimes-read c.args.copies.now c.advance.new.self c.issue.new.self c.drop_idle.new.copies c.args.moment c.advance.ensures.passes idle c.args.key.now (length c.args.book.now.journal) c.bound-ttl.result
    (c.advance.new.self.clock + kept_for c.advance.new.self.setting c.bound-ttl.result) c.advance.ensures.idle c.issue.ensures.idle (issued c)
    c.args.book.now.journal front (record c.args.life.now { absents = c.bound-ttl.new.absents }) (record c.args.life.now { estimator = c.note_read.new.estimator; absents = c.bound-ttl.new.absents }) c.drop_idle.new.life within c.requires.ready.alone
    (ap (λ (e : Estimated). record c.args.life.now { estimator = e; absents = c.bound-ttl.new.absents }) c.note_read.ensures.rest)
    (noted-as c.args.life.now.estimator.keys c.note_read.new.estimator.keys c.args.key.now c.bound-ttl.result c.is_active-active.result _ c.clock.result c.advance.new.self.clock c.is_active-active.ensures
    (c.clock.ensures ∙ ap (λ (h : CopiesView). h.clock) c.issue.ensures.rest) c.note_read.ensures.kept)
    c.note_read.ensures.known c.drop_idle.ensures.dropped c.drop_idle.ensures.rest
    (ap (λ (h : CopiesView). h.setting) c.drop_idle.ensures.rest ∙ ap (λ (h : CopiesView). h.setting) c.issue.ensures.rest ∙ setting c)
    c.issue.ensures.ready (lifetimes-absents c.args.book.now.journal front c.args.copies.now c.args.life.now c.bound-ttl.new.absents keeps)

pub returns-clause-kept : goal.returns-clause-kept
returns-clause-kept c = λ front within keeps.
    c.drop_idle.ensures.kept c.args.book.now.journal front
    (subst (λ (entries : List (KeyShape × Following)). KeepsQueries c.args.book.now.journal front c.issue.new.self.copies c.issue.new.self.idle entries) (sym c.add_started.ensures)
    (kept-issued c.args.book.now.journal front c.advance.new.self c.issue.new.self c.args.key.now c.count-commit.result c.bound-ttl.result (c.advance.new.self.clock + kept_for c.advance.new.self.setting c.bound-ttl.result) c.args.queries.now
    (kept-passed c.args.moment c.args.copies.now c.advance.new.self c.args.queries.now.entries c.advance.ensures.passes c.advance.ensures.idle c.args.book.now.journal front keeps)
    within c.count-commit.ensures.count c.issue.ensures.copies c.issue.ensures.idle c.args.started c.requires.at_hand))

-- a copy with a lifetime may be issued
pub issue-requires-clause-allowed : goal.issue-requires-clause-allowed
issue-requires-clause-allowed c = λ some.
    may-issue c.advance.new.self c.args.life.now.estimator c.args.key.now (ids_at c.args.key.now c.args.book.now.journal) c.advance.new.self.clock
    (c.requires.limits ∙ ap (λ (h : CopiesView). limits_of h.setting) (sym c.advance.ensures.passes.rest))
    (subst (λ (n : ℕ). 0 < n) (c.lifetime-estimated.ensures ∙ ap (λ (active : Bool). lifetime c.args.life.now.estimator c.args.key.now (ids_at c.args.key.now c.args.book.now.journal) c.advance.new.self.clock active (active_keys c.advance.new.self.copies)) c.is_active-active.ensures) (c.bound-ttl.ensures.some some))

-- all is ready for the query that was started
pub add_started-requires : goal.add_started-requires
add_started-requires c = may-be-added c.args.book.now.journal c.args.key.now c.args.started c.args.queries.now c.requires.at_hand
