-- the copy is issued at the moment's clock
use Rattle.std.proofs.Common.{◌≡◌, ℕ, List, length, max, true, false, refl, ap, ap₂, sym, ◌∙◌, subst, inl}
use Rattle.commit_book.specs.declared.change.Change.{Change}
use Rattle.hub_model.specs.Journal.{result_at}
use Rattle.hub_model.specs.Known.{known_at}
use Rattle.hub_model.specs.Lifetime.{is_absence, is_bounded, limits_of, shared_of, ttl_of}
use Rattle.hub_model.specs.Reply.{outcome_of, read, reply_in}
use Rattle.hub_model.specs.Setting.{Setting}
use Rattle.hub_model.specs.State.{State, at_moment}
use Rattle.hub_model.specs.Step.{has_read}
use Rattle.hub_model.specs.declared.entry.Entry.TheVariants.{Read}
use Rattle.hub_core.specs.ActiveQueries.{KeepsQueries}
use Rattle.hub_core.specs.CopiesView.{CopiesView}
use Rattle.hub_core.specs.HubState.{HubView, IsAt, IsSoundHub, hub_of, hub_with}
use Rattle.issued_expiries.specs.Expiries.{Issued}
use Rattle.hub_core.specs.declared.lifetimes.Lifetimes.{Lifetimes}
use Rattle.hub_core.proofs.HubLemmas.{at-absents, at-ready, at-with, on_err_all, parts-at, sound-read}
use Rattle.hub_core.proofs.LifeLemmas.{lifetimes-absents, lifetimes-reserved}
use Rattle.hub_core.proofs.ReadLemmas.{kept-alike}
use Rattle.hub_core.proofs.hub.Hub.issue_record.Goals as goal

-- ---- the copy

-- what it keeps for lifetimes
abbrev life : goal.After-shared_of → Lifetimes
life c = record c.self.inside.life { absents = c.reserve_record.new.absents }

-- the hub with its memory ready
ready : (c : goal.After-shared_of) (s : State) → IsAt c.args.self.now s → IsAt (hub_of c.self.inside.book c.self.inside.front c.reserve_record.new.copies (life c)) s
ready c s at =
    at-absents c.self.inside.book c.self.inside.front c.reserve_record.new.copies c.self.inside.life s
    (at-ready c.self.inside.book c.self.inside.front c.self.inside.copies c.self.inside.life s (parts-at c.self.inside.book c.self.inside.front c.self.inside.copies c.self.inside.queries.entries c.self.inside.life c.args.self.now s c.self.view_is at) c.reserve_record.new.copies c.in_ok-reserve_record.ensures.rest)
    c.reserve_record.new.absents c.in_ok-reserve_record.ensures.absents

setting : (c : goal.After-shared_of) → c.reserve_record.new.copies.setting ≡ c.args.self.now.setting
setting c = ap (λ (h : CopiesView). h.setting) c.in_ok-reserve_record.ensures.rest ∙ ap (λ (h : HubView). h.setting) c.self.view_is

stands : (c : goal.After-shared_of) (s : State) → IsAt c.args.self.now s → IsAt (hub_of c.self.inside.book c.self.inside.front c.issue_copy-ttl.new.copies c.issue_copy-ttl.new.life) (has_read c.args.self.now.setting c.args.key.now c.count.result (at_moment s c.args.moment))
stands c s at =
    subst (λ (g : Setting). IsAt (hub_of c.self.inside.book c.self.inside.front c.issue_copy-ttl.new.copies c.issue_copy-ttl.new.life) (has_read g c.args.key.now c.count.result (at_moment s c.args.moment))) (setting c)
    (subst (λ (n : ℕ). IsAt (hub_of c.self.inside.book c.self.inside.front c.issue_copy-ttl.new.copies c.issue_copy-ttl.new.life) (has_read c.reserve_record.new.copies.setting c.args.key.now n (at_moment s c.args.moment))) (sym c.count.ensures.count)
    (c.issue_copy-ttl.ensures.issued c.self.inside.front s c.self.invariant.within (ap (λ (h : CopiesView). h.idle) c.in_ok-reserve_record.ensures.rest ∙ c.self.invariant.lean.idle) (ready c s at)))

told : (c : goal.After-shared_of) (s : State) → IsAt c.args.self.now s → read (record { commit = c.count.result; clock = c.clock.result; ttl = c.issue_copy-ttl.result; shared = c.shared_of.result; result = c.args.found }) ≡ reply_in c.args.self.now.setting s (Read c.args.moment c.args.key.now c.args.tags.now c.count.result)
told c s at =
    let last = c.count.ensures.count in
    let commits : c.args.self.now.commits ≡ c.count.result = sym (last ∙ ap (λ (h : HubView). h.commits) c.self.view_is) in
    let clock : c.clock.result ≡ max s.clock c.args.moment = c.clock.ensures ∙ (stands c s at).time.clock in
    let ttl : c.issue_copy-ttl.result ≡ ttl_of c.args.self.now.setting (at_moment s c.args.moment) c.args.key.now c.count.result =
    c.issue_copy-ttl.ensures.ttl c.self.inside.front s (ready c s at) ∙ ap (λ (g : Setting). ttl_of g (at_moment s c.args.moment) c.args.key.now (length c.self.inside.book.journal)) (setting c) ∙ ap (ttl_of c.args.self.now.setting (at_moment s c.args.moment) c.args.key.now) (sym last) in
    let shared : c.shared_of.result ≡ shared_of c.args.self.now.setting (ttl_of c.args.self.now.setting (at_moment s c.args.moment) c.args.key.now c.count.result) =
    c.shared_of.ensures ∙ ap₂ shared_of (c.issue_copy-ttl.ensures.setting ∙ setting c) ttl in
    let found =
    c.requires.outcome
    ∙ ap (λ (n : ℕ). outcome_of (result_at c.args.key.now c.args.self.now.rows n) (known_at c.args.key.now c.args.self.now.rows c.args.self.now.horizon n c.args.tags.now)) commits
    ∙ ap₂ (λ (xs : List Change) (h : ℕ). outcome_of (result_at c.args.key.now xs c.count.result) (known_at c.args.key.now xs h c.count.result c.args.tags.now)) at.book.rows at.book.horizon in
    (λ i. read (record { commit = c.count.result; clock = clock i; ttl = ttl i; shared = shared i; result = found i }))

pub returns-clause-answers : goal.returns-clause-answers
returns-clause-answers c = record {
  last = c.count.ensures.count ∙ ap (λ (h : HubView). h.commits) c.self.view_is;
  told = told c;
  stands = λ s at. at-with c.self.inside.book c.self.inside.front c.issue_copy-ttl.new.copies c.issue_copy-ttl.new.queries.entries c.issue_copy-ttl.new.life _ (stands c s at);
}

-- ---- what the copy needs

-- the queries are followed still
kept-queries : (c : goal.After-shared_of) → KeepsQueries c.self.inside.book.journal c.self.inside.front c.reserve_record.new.copies.copies c.reserve_record.new.copies.idle c.self.inside.queries.entries
kept-queries c =
    kept-alike c.self.inside.book.journal c.self.inside.front c.self.inside.copies c.reserve_record.new.copies c.self.inside.queries.entries (ap (λ (h : CopiesView). h.copies) c.in_ok-reserve_record.ensures.rest) (ap (λ (h : CopiesView). h.idle) c.in_ok-reserve_record.ensures.rest) c.self.invariant.queries

pub issue_copy-ttl-requires-clause-at_hand : goal.issue_copy-ttl-requires-clause-at_hand
issue_copy-ttl-requires-clause-at_hand c = inl c.requires.kind

pub issue_copy-ttl-requires-clause-known : goal.issue_copy-ttl-requires-clause-known
issue_copy-ttl-requires-clause-known c = λ query. absurd (let e : true ≡ false = sym query ∙ c.requires.kind in cc)

pub issue_copy-ttl-requires-clause-bounded : goal.issue_copy-ttl-requires-clause-bounded
issue_copy-ttl-requires-clause-bounded c =
    c.requires.bounded
    ∙ sym (ap (λ (h : HubView). is_bounded h.setting (is_absence (result_at c.args.key.now h.rows h.commits))) c.self.view_is)
    ∙ ap (λ (g : Setting). is_bounded g (is_absence (result_at c.args.key.now c.self.inside.book.journal (length c.self.inside.book.journal)))) (sym (ap (λ (h : CopiesView). h.setting) c.in_ok-reserve_record.ensures.rest))

pub issue_copy-ttl-requires-clause-present : goal.issue_copy-ttl-requires-clause-present
issue_copy-ttl-requires-clause-present c = λ unbounded. ap (λ (a : Issued). a.reserved) (c.in_ok-reserve_record.ensures.unbounded unbounded) ∙ c.self.invariant.lean.absents_ready

pub issue_copy-ttl-requires-clause-absents_idle : goal.issue_copy-ttl-requires-clause-absents_idle
issue_copy-ttl-requires-clause-absents_idle c = ap (λ (a : Issued). a.idle) c.in_ok-reserve_record.ensures.absents ∙ c.self.invariant.lean.absents_idle

pub issue_copy-ttl-requires-clause-limits : goal.issue_copy-ttl-requires-clause-limits
issue_copy-ttl-requires-clause-limits c = c.self.invariant.lifetimes.limits ∙ ap (λ (h : CopiesView). limits_of h.setting) (sym c.in_ok-reserve_record.ensures.rest)

-- ---- the parts of the hub belong together

pub invariant_of-self-2 : goal.invariant_of-self-2
invariant_of-self-2 c =
    let book = c.self.inside.book in
    let front = c.self.inside.front in
    let rest = c.in_ok-reserve_record.ensures.rest in
    sound-read book front c.self.inside.copies c.issue_copy-ttl.new.copies c.self.inside.queries.entries c.issue_copy-ttl.new.queries.entries c.self.inside.life c.issue_copy-ttl.new.life c.self.invariant
    (c.issue_copy-ttl.ensures.kept front c.self.invariant.within (kept-queries c))
    (c.issue_copy-ttl.ensures.lifetimes front c.self.invariant.within (ap (λ (h : CopiesView). h.idle) rest ∙ c.self.invariant.lean.idle)
    (lifetimes-absents book.journal front c.reserve_record.new.copies c.self.inside.life c.reserve_record.new.absents
    (lifetimes-reserved book.journal front c.self.inside.copies c.reserve_record.new.copies c.self.inside.life c.self.inside.life.estimator c.args.key.now c.self.invariant.lifetimes rest c.self.invariant.lean.ready c.in_ok-reserve_record.ensures.ready.own c.in_ok-reserve_record.ensures.ready.alone
    refl (λ other. refl) (λ query. absurd (let e : true ≡ false = sym query ∙ c.requires.kind in cc)) (λ other apart. refl))))
    (c.issue_copy-ttl.ensures.setting ∙ ap (λ (h : CopiesView). h.setting) rest) c.issue_copy-ttl.ensures.idle c.issue_copy-ttl.ensures.ready
    (c.issue_copy-ttl.ensures.invalidatable ∙ ap (λ (h : CopiesView). h.invalidatable) rest) c.issue_copy-ttl.ensures.writes c.issue_copy-ttl.ensures.absents_idle c.issue_copy-ttl.ensures.absents_ready

pub returns-clause-lean : goal.returns-clause-lean
returns-clause-lean c = (invariant_of-self-2 c).lean

-- ---- where memory ran out all is as before

pub invariant_of-self : goal.invariant_of-self
invariant_of-self c =
    subst (λ (h : CopiesView). IsSoundHub c.self.inside.book c.self.inside.front h c.self.inside.queries.entries (record c.self.inside.life { absents = c.reserve_record.new.absents })) (sym c.in_err-reserve_record.ensures.err)
    (subst (λ (a : Issued). IsSoundHub c.self.inside.book c.self.inside.front c.self.inside.copies c.self.inside.queries.entries (record c.self.inside.life { absents = a })) (sym c.in_err-reserve_record.ensures.absents_err) c.self.invariant)

pub returns-in_err-reserve_record-clause-memory : goal.returns-in_err-reserve_record-clause-memory
returns-in_err-reserve_record-clause-memory c =
    on_err_all c.from_residual.result _
    ((let h = c.in_err-reserve_record.ensures.err in
    let a = c.in_err-reserve_record.ensures.absents_err in
    (λ i. hub_with c.self.inside.book c.self.inside.front (h i) c.self.inside.queries.entries (record c.self.inside.life { absents = a i })))
    ∙ c.self.view_is)

pub returns-in_err-reserve_record-clause-lean : goal.returns-in_err-reserve_record-clause-lean
returns-in_err-reserve_record-clause-lean c = (invariant_of-self c).lean
