-- the answer is that of the moment's clock, and its copy is issued
use Rattle.std.proofs.Common.{◌≡◌, ℕ, List, length, max, refl, ap, ap₂, sym, ◌∙◌, subst, arith}
use Rattle.commit_book.specs.declared.change.Change.{Change}
use Rattle.hub_model.specs.Journal.{result_at}
use Rattle.hub_model.specs.Known.{known_at}
use Rattle.hub_model.specs.Reply.{read, outcome_of, reply_in}
use Rattle.hub_model.specs.Setting.{Setting}
use Rattle.hub_model.specs.State.{State, at_moment}
use Rattle.hub_model.specs.Step.{has_read}
use Rattle.hub_model.specs.declared.entry.Entry.TheVariants.{Read}
use Rattle.ttl_estimator.specs.Estimator.{Estimated}
use Rattle.hub_model.specs.Lifetime.{limits_of, shared_of, ttl_of}
use Rattle.hub_core.specs.ActiveQueries.{KeepsQueries}
use Rattle.hub_core.specs.HubState.{HubView, IsAt, IsSoundHub, hub_of}
use Rattle.hub_core.specs.CopiesView.{CopiesView}
use Rattle.hub_core.proofs.AbsentLemmas.{query-unbounded}
use Rattle.hub_core.proofs.HubLemmas.{alike-before, as-before, at-estimates, at-ready, at-with, on_err_all, parts-at, sound-followed, sound-read}
use Rattle.hub_core.proofs.KeepLemmas.{keeps-seen}
use Rattle.hub_core.proofs.LifeLemmas.{lifetimes-reserved}
use Rattle.hub_core.proofs.ReadLemmas.{kept-alike}
use Rattle.hub_core.proofs.hub.Hub.read_query.Goals as goal

-- the hub when the query of the key has followed
pub invariant_of-self : goal.invariant_of-self
invariant_of-self c =
    sound-followed c.self.inside.book c.self.inside.front c.self.inside.copies c.self.inside.queries.entries c.follow_or_start.new.queries.entries c.self.inside.life c.self.invariant
    (c.follow_or_start.ensures.kept c.self.inside.front c.self.inside.copies.copies c.self.inside.copies.idle c.self.invariant.queries)

pub invariant_of-self-in_err-result : goal.invariant_of-self-in_err-result
invariant_of-self-in_err-result c =
    sound-followed c.self.inside.book c.self.inside.front c.self.inside.copies c.self.inside.queries.entries c.follow_or_start.new.queries.entries c.self.inside.life c.self.invariant
    (c.follow_or_start.ensures.kept c.self.inside.front c.self.inside.copies.copies c.self.inside.copies.idle c.self.invariant.queries)

pub invariant_of-self-in_err-reserve_copy : goal.invariant_of-self-in_err-reserve_copy
invariant_of-self-in_err-reserve_copy c =
    subst (λ (h : CopiesView). IsSoundHub c.self.inside.book c.self.inside.front h c.follow_or_start.new.queries.entries (record c.self.inside.life { estimator = c.reserve_copy.new.estimator })) (sym c.in_err-reserve_copy.ensures.err)
    (subst (λ (e : Estimated). IsSoundHub c.self.inside.book c.self.inside.front c.self.inside.copies c.follow_or_start.new.queries.entries (record c.self.inside.life { estimator = e })) (sym c.in_err-reserve_copy.ensures.estimator)
    (sound-followed c.self.inside.book c.self.inside.front c.self.inside.copies c.self.inside.queries.entries c.follow_or_start.new.queries.entries c.self.inside.life c.self.invariant
    (c.follow_or_start.ensures.kept c.self.inside.front c.self.inside.copies.copies c.self.inside.copies.idle c.self.invariant.queries)))

-- the queries are followed still
kept-queries : (c : goal.After-shared_of) → KeepsQueries c.self.inside.book.journal c.self.inside.front c.reserve_copy.new.copies.copies c.reserve_copy.new.copies.idle c.follow_or_start.new.queries.entries
kept-queries c =
    kept-alike c.self.inside.book.journal c.self.inside.front c.self.inside.copies c.reserve_copy.new.copies c.follow_or_start.new.queries.entries (ap (λ (h : CopiesView). h.copies) c.in_ok-reserve_copy.ensures.rest) (ap (λ (h : CopiesView). h.idle) c.in_ok-reserve_copy.ensures.rest)
    (c.follow_or_start.ensures.kept c.self.inside.front c.self.inside.copies.copies c.self.inside.copies.idle c.self.invariant.queries)

-- the queries have seen the horizon, which is not above the last commit
pub follow_or_start-requires-clause-seen : goal.follow_or_start-requires-clause-seen
follow_or_start-requires-clause-seen c = keeps-seen c.self.inside.book.journal c.self.inside.front c.self.inside.book.horizon c.self.inside.copies.copies c.self.inside.copies.idle c.self.inside.queries.entries c.self.invariant.kept c.self.invariant.queries

pub follow_or_start-requires-clause-above : goal.follow_or_start-requires-clause-above
follow_or_start-requires-clause-above c = omega (arith, c.self.invariant.kept, c.self.invariant.within)

pub outcome_at-requires-clause-above : goal.outcome_at-requires-clause-above
outcome_at-requires-clause-above c = omega (arith, c.self.invariant.kept, c.self.invariant.within)

pub outcome_at-requires-clause-following : goal.outcome_at-requires-clause-following
outcome_at-requires-clause-following c = (c.follow_or_start.ensures.kept c.self.inside.front c.self.inside.copies.copies c.self.inside.copies.idle c.self.invariant.queries).following

-- ---- the copy

-- the hub with its memory ready
ready : (c : goal.After-shared_of) (s : State) → IsAt c.args.self.now s → IsAt (hub_of c.self.inside.book c.self.inside.front c.reserve_copy.new.copies (record c.self.inside.life { estimator = c.reserve_copy.new.estimator })) s
ready c s at =
    at-estimates c.self.inside.book c.self.inside.front c.reserve_copy.new.copies c.self.inside.life s
    (at-ready c.self.inside.book c.self.inside.front c.self.inside.copies c.self.inside.life s (parts-at c.self.inside.book c.self.inside.front c.self.inside.copies c.self.inside.queries.entries c.self.inside.life c.args.self.now s c.self.view_is at) c.reserve_copy.new.copies c.in_ok-reserve_copy.ensures.rest)
    c.reserve_copy.new.estimator c.in_ok-reserve_copy.ensures.estimates c.in_ok-reserve_copy.ensures.kept

setting : (c : goal.After-shared_of) → c.reserve_copy.new.copies.setting ≡ c.args.self.now.setting
setting c = ap (λ (h : CopiesView). h.setting) c.in_ok-reserve_copy.ensures.rest ∙ ap (λ (h : HubView). h.setting) c.self.view_is

stands : (c : goal.After-shared_of) (s : State) → IsAt c.args.self.now s → IsAt (hub_of c.self.inside.book c.self.inside.front c.issue_copy-ttl.new.copies c.issue_copy-ttl.new.life) (has_read c.args.self.now.setting c.args.key.now c.count.result (at_moment s c.args.moment))
stands c s at =
    subst (λ (g : Setting). IsAt (hub_of c.self.inside.book c.self.inside.front c.issue_copy-ttl.new.copies c.issue_copy-ttl.new.life) (has_read g c.args.key.now c.count.result (at_moment s c.args.moment))) (setting c)
    (subst (λ (n : ℕ). IsAt (hub_of c.self.inside.book c.self.inside.front c.issue_copy-ttl.new.copies c.issue_copy-ttl.new.life) (has_read c.reserve_copy.new.copies.setting c.args.key.now n (at_moment s c.args.moment))) (sym c.count.ensures.count)
    (c.issue_copy-ttl.ensures.issued c.self.inside.front s c.self.invariant.within (ap (λ (h : CopiesView). h.idle) c.in_ok-reserve_copy.ensures.rest ∙ c.self.invariant.lean.idle) (ready c s at)))

told : (c : goal.After-shared_of) (s : State) → IsAt c.args.self.now s → read (record { commit = c.count.result; clock = c.clock.result; ttl = c.issue_copy-ttl.result; shared = c.shared_of.result; result = c.in_ok-result.result }) ≡ reply_in c.args.self.now.setting s (Read c.args.moment c.args.key.now c.args.tags.now c.count.result)
told c s at =
    let last = c.count.ensures.count in
    let clock : c.clock.result ≡ max s.clock c.args.moment = c.clock.ensures ∙ (stands c s at).time.clock in
    let ttl : c.issue_copy-ttl.result ≡ ttl_of c.args.self.now.setting (at_moment s c.args.moment) c.args.key.now c.count.result =
    c.issue_copy-ttl.ensures.ttl c.self.inside.front s (ready c s at) ∙ ap (λ (g : Setting). ttl_of g (at_moment s c.args.moment) c.args.key.now (length c.self.inside.book.journal)) (setting c) ∙ ap (ttl_of c.args.self.now.setting (at_moment s c.args.moment) c.args.key.now) (sym last) in
    let shared : c.shared_of.result ≡ shared_of c.args.self.now.setting (ttl_of c.args.self.now.setting (at_moment s c.args.moment) c.args.key.now c.count.result) =
    c.shared_of.ensures ∙ ap₂ shared_of (c.issue_copy-ttl.ensures.setting ∙ setting c) ttl in
    let found =
    c.in_ok-result.ensures
    ∙ ap (λ (n : ℕ). outcome_of (result_at c.args.key.now c.self.inside.book.journal n) (known_at c.args.key.now c.self.inside.book.journal c.self.inside.book.horizon n c.args.tags.now)) (sym last)
    ∙ ap₂ (λ (xs : List Change) (h : ℕ). outcome_of (result_at c.args.key.now xs c.count.result) (known_at c.args.key.now xs h c.count.result c.args.tags.now)) (ready c s at).book.rows (ready c s at).book.horizon in
    (λ i. read (record { commit = c.count.result; clock = clock i; ttl = ttl i; shared = shared i; result = found i }))

pub returns-clause-answers : goal.returns-clause-answers
returns-clause-answers c = record {
  last = c.count.ensures.count ∙ ap (λ (h : HubView). h.commits) c.self.view_is;
  told = told c;
  stands = λ s at. at-with c.self.inside.book c.self.inside.front c.issue_copy-ttl.new.copies c.issue_copy-ttl.new.queries.entries c.issue_copy-ttl.new.life _ (stands c s at);
}

-- ---- what the copy needs

-- no lifetime of a query is bounded
pub issue_copy-ttl-requires-clause-bounded : goal.issue_copy-ttl-requires-clause-bounded
issue_copy-ttl-requires-clause-bounded c = query-unbounded c.reserve_copy.new.copies.setting c.args.key.now c.self.inside.book.journal (length c.self.inside.book.journal) c.requires

pub issue_copy-ttl-requires-clause-absent : goal.issue_copy-ttl-requires-clause-absent
issue_copy-ttl-requires-clause-absent c = λ bounded. absurd (let e = bounded in cc)

pub issue_copy-ttl-requires-clause-present : goal.issue_copy-ttl-requires-clause-present
issue_copy-ttl-requires-clause-present c = λ unbounded. c.self.invariant.lean.absents_ready

pub issue_copy-ttl-requires-clause-absents_idle : goal.issue_copy-ttl-requires-clause-absents_idle
issue_copy-ttl-requires-clause-absents_idle c = c.self.invariant.lean.absents_idle

pub issue_copy-ttl-requires-clause-following : goal.issue_copy-ttl-requires-clause-following
issue_copy-ttl-requires-clause-following c = (c.follow_or_start.ensures.kept c.self.inside.front c.self.inside.copies.copies c.self.inside.copies.idle c.self.invariant.queries).following

pub issue_copy-ttl-requires-clause-limits : goal.issue_copy-ttl-requires-clause-limits
issue_copy-ttl-requires-clause-limits c =
    ap (λ (e : Estimated). e.limits) c.in_ok-reserve_copy.ensures.estimates ∙ c.self.invariant.lifetimes.limits ∙ ap (λ (h : CopiesView). limits_of h.setting) (sym c.in_ok-reserve_copy.ensures.rest)

-- ---- the parts of the hub belong together

-- with memory for the copy and an entry for the key
pub invariant_of-self-2 : goal.invariant_of-self-2
invariant_of-self-2 c =
    let book = c.self.inside.book in
    let front = c.self.inside.front in
    let rest = c.in_ok-reserve_copy.ensures.rest in
    sound-read book front c.self.inside.copies c.issue_copy-ttl.new.copies c.self.inside.queries.entries c.issue_copy-ttl.new.queries.entries c.self.inside.life c.issue_copy-ttl.new.life c.self.invariant
    (c.issue_copy-ttl.ensures.kept front c.self.invariant.within (kept-queries c))
    (c.issue_copy-ttl.ensures.lifetimes front c.self.invariant.within (ap (λ (h : CopiesView). h.idle) rest ∙ c.self.invariant.lean.idle)
    (lifetimes-reserved book.journal front c.self.inside.copies c.reserve_copy.new.copies c.self.inside.life c.reserve_copy.new.estimator c.args.key.now c.self.invariant.lifetimes rest c.self.invariant.lean.ready c.in_ok-reserve_copy.ensures.ready.own c.in_ok-reserve_copy.ensures.ready.alone
    c.in_ok-reserve_copy.ensures.estimates c.in_ok-reserve_copy.ensures.kept c.in_ok-reserve_copy.ensures.known c.in_ok-reserve_copy.ensures.others))
    (c.issue_copy-ttl.ensures.setting ∙ ap (λ (h : CopiesView). h.setting) rest) c.issue_copy-ttl.ensures.idle c.issue_copy-ttl.ensures.ready
    (c.issue_copy-ttl.ensures.invalidatable ∙ ap (λ (h : CopiesView). h.invalidatable) rest)
    (c.issue_copy-ttl.ensures.writes ∙ ap (λ (e : Estimated). e.records) c.in_ok-reserve_copy.ensures.estimates) c.issue_copy-ttl.ensures.absents_idle c.issue_copy-ttl.ensures.absents_ready

-- ---- nothing is kept but what the history needs

pub returns-clause-lean : goal.returns-clause-lean
returns-clause-lean c = (invariant_of-self-2 c).lean

-- ---- where memory ran out the sets have gone on, and all else is as before

pub returns-in_err-started-clause-memory : goal.returns-in_err-started-clause-memory
returns-in_err-started-clause-memory c =
    on_err_all c.from_residual.result _
    (as-before c.self.inside.book c.self.inside.front c.self.inside.copies c.self.inside.queries.entries c.self.inside.life c.args.self.now c.follow_or_start.new.queries.entries c.self.view_is c.follow_or_start.ensures.gone_on)

pub returns-in_err-result-clause-memory : goal.returns-in_err-result-clause-memory
returns-in_err-result-clause-memory c =
    on_err_all c.from_residual-in_err-result.result _
    (as-before c.self.inside.book c.self.inside.front c.self.inside.copies c.self.inside.queries.entries c.self.inside.life c.args.self.now c.follow_or_start.new.queries.entries c.self.view_is c.follow_or_start.ensures.gone_on)

pub returns-in_err-reserve_copy-clause-memory : goal.returns-in_err-reserve_copy-clause-memory
returns-in_err-reserve_copy-clause-memory c =
    on_err_all c.from_residual-in_err-reserve_copy.result _
    (alike-before c.self.inside.book c.self.inside.front c.self.inside.copies c.self.inside.queries.entries c.self.inside.life c.self.inside.book c.self.inside.front c.reserve_copy.new.copies c.follow_or_start.new.queries.entries (record c.self.inside.life { estimator = c.reserve_copy.new.estimator }) c.args.self.now c.self.view_is refl refl c.in_err-reserve_copy.ensures.err
    (record { estimator = c.in_err-reserve_copy.ensures.estimator; texts = refl; absents = refl }) c.follow_or_start.ensures.gone_on)

pub returns-in_err-started-clause-lean : goal.returns-in_err-started-clause-lean
returns-in_err-started-clause-lean c = (invariant_of-self c).lean

pub returns-in_err-result-clause-lean : goal.returns-in_err-result-clause-lean
returns-in_err-result-clause-lean c = (invariant_of-self-in_err-result c).lean

pub returns-in_err-reserve_copy-clause-lean : goal.returns-in_err-reserve_copy-clause-lean
returns-in_err-reserve_copy-clause-lean c = (invariant_of-self-in_err-reserve_copy c).lean
