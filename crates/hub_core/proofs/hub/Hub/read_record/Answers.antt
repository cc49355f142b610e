-- a read that changes nothing is the next entry all the same
use Rattle.std.proofs.Common.{◌≡◌, ℕ, Bool, false, List, length, max, refl, ap, ap₂, sym, ◌∙◌, subst, arith}
use Rattle.commit_book.specs.declared.change.Change.{Change}
use Rattle.query_normal.specs.declared.key.KeyShape.{KeyShape}
use Rattle.query_normal.specs.declared.key.KeyShape.TheVariants.{Record}
use Rattle.hub_model.specs.Journal.{result_at}
use Rattle.hub_model.specs.Known.{known_at}
use Rattle.hub_model.specs.Lifetime.{is_absence, is_bounded, shared_of, ttl_of}
use Rattle.hub_model.specs.Reply.{outcome_of, read, reply_in}
use Rattle.hub_model.specs.Setting.{Setting}
use Rattle.hub_model.specs.State.{State, at_moment}
use Rattle.hub_model.specs.declared.entry.Outcome.{Outcome}
use Rattle.hub_model.specs.declared.entry.Tags.{Tags}
use Rattle.hub_model.specs.Step.{has_read}
use Rattle.hub_model.specs.declared.entry.Entry.TheVariants.{Read}
use Rattle.hub_core.specs.Absents.{tells_absence}
use Rattle.hub_core.specs.ActiveQueries.{is_query}
use Rattle.hub_core.specs.CopiesView.{CopiesView}
use Rattle.hub_core.specs.HubState.{HubView, IsAt, hub_of, hub_with}
use Rattle.hub_core.specs.declared.lifetimes.Lifetimes.{Lifetimes}
use Rattle.active_queries.specs.Following.{Following}
use Rattle.commit_book.specs.Contents.{Contents}
use Rattle.hub_core.proofs.AbsentLemmas.{tells-absence}
use Rattle.hub_core.proofs.HubLemmas.{at-with, hub-known, parts-at, ttl-known}
use Rattle.hub_core.proofs.hub.Hub.read_record.Goals as goal

-- of what is found of a record by the parts of a hub
module _ (book : Contents) (front : ℕ) (h : CopiesView) (entries : List (KeyShape × Following)) (l : Lifetimes) (self : HubView) (view : hub_with book front h entries l ≡ self)
    (key : KeyShape) (collection id : List ℕ) (key_is : key ≡ Record collection id) (tags : Tags) (count : ℕ) (last : count ≡ length book.journal)
    (found : Outcome) (found_is : found ≡ outcome_of (result_at (Record collection id) book.journal count) (known_at (Record collection id) book.journal book.horizon count tags)) where
  -- the outcome is that of the hub
  outcome : found ≡ outcome_of (result_at key self.rows self.commits) (known_at key self.rows self.horizon self.commits tags)
  outcome =
      found_is
      ∙ ap (λ (n : ℕ). outcome_of (result_at (Record collection id) book.journal n) (known_at (Record collection id) book.journal book.horizon n tags)) last
      ∙ ap (λ (x : HubView). outcome_of (result_at (Record collection id) x.rows x.commits) (known_at (Record collection id) x.rows x.horizon x.commits tags)) view
      ∙ ap (λ (k : KeyShape). outcome_of (result_at k self.rows self.commits) (known_at k self.rows self.horizon self.commits tags)) (sym key_is)

  -- and tells whether the lifetime is bounded
  bounded : (flag : Bool) → flag ≡ is_bounded h.setting (tells_absence found) → flag ≡ is_bounded self.setting (is_absence (result_at key self.rows self.commits))
  bounded flag flag_is =
      flag_is
      ∙ ap₂ (λ (g : Setting) (o : Outcome). is_bounded g (tells_absence o)) (ap (λ (x : HubView). x.setting) view) outcome
      ∙ ap (is_bounded self.setting) (tells-absence (result_at key self.rows self.commits) (known_at key self.rows self.horizon self.commits tags))

-- the last commit is not below the horizon
pub record_outcome-requires-clause-above : goal.record_outcome-requires-clause-above
record_outcome-requires-clause-above c = omega (arith, c.self.invariant.kept, c.self.invariant.within, c.count-commit.ensures.count)

pub known_lifetime-requires : goal.known_lifetime-requires
known_lifetime-requires c = ap is_query c.requires

pub issue_record-requires-clause-kind : goal.issue_record-requires-clause-kind
issue_record-requires-clause-kind c = ap is_query c.requires

pub issue_record-requires-clause-bounded : goal.issue_record-requires-clause-bounded
issue_record-requires-clause-bounded c =
    bounded c.self.inside.book c.self.inside.front c.self.inside.copies c.self.inside.queries.entries c.self.inside.life c.args.self.now c.self.view_is c.args.key.now c.args.collection.now c.args.id.now c.requires c.args.tags.now c.count-commit.result c.count-commit.ensures.count c.in_ok-result.result c.in_ok-result.ensures
    c.is_bounded-bounded.result c.is_bounded-bounded.ensures

pub issue_record-requires-clause-outcome : goal.issue_record-requires-clause-outcome
issue_record-requires-clause-outcome c =
    outcome c.self.inside.book c.self.inside.front c.self.inside.copies c.self.inside.queries.entries c.self.inside.life c.args.self.now c.self.view_is c.args.key.now c.args.collection.now c.args.id.now c.requires c.args.tags.now c.count-commit.result c.count-commit.ensures.count c.in_ok-result.result c.in_ok-result.ensures

-- ---- where a copy is known that may be kept as long

at-parts : (c : goal.After-shared_of) (s : State) → IsAt c.args.self.now s → IsAt (hub_of c.self.inside.book c.self.inside.front c.self.inside.copies c.self.inside.life) s
at-parts c s at = parts-at c.self.inside.book c.self.inside.front c.self.inside.copies c.self.inside.queries.entries c.self.inside.life c.args.self.now s c.self.view_is at

-- it is not
unbounded : (c : goal.After-shared_of) → is_bounded c.self.inside.copies.setting (is_absence (result_at c.args.key.now c.self.inside.book.journal (length c.self.inside.book.journal))) ≡ false
unbounded c =
    ap (λ (h : HubView). is_bounded h.setting (is_absence (result_at c.args.key.now h.rows h.commits))) c.self.view_is
    ∙ sym (bounded c.self.inside.book c.self.inside.front c.self.inside.copies c.self.inside.queries.entries c.self.inside.life c.args.self.now c.self.view_is c.args.key.now c.args.collection.now c.args.id.now c.requires c.args.tags.now c.count-commit.result c.count-commit.ensures.count c.in_ok-result.result c.in_ok-result.ensures c.is_bounded-bounded.result c.is_bounded-bounded.ensures) ∙ c.in-Some.ensures.unbounded

stands : (c : goal.After-shared_of) (s : State) → IsAt c.args.self.now s → IsAt c.args.self.now (has_read c.args.self.now.setting c.args.key.now c.count-commit.result (at_moment s c.args.moment))
stands c s at =
    subst (λ (h : HubView). IsAt h (has_read h.setting c.args.key.now c.count-commit.result (at_moment s c.args.moment))) c.self.view_is
    (at-with c.self.inside.book c.self.inside.front c.self.inside.copies c.self.inside.queries.entries c.self.inside.life _
    (subst (λ (n : ℕ). IsAt (hub_of c.self.inside.book c.self.inside.front c.self.inside.copies c.self.inside.life) (has_read c.self.inside.copies.setting c.args.key.now n (at_moment s c.args.moment))) (sym c.count-commit.ensures.count)
    (hub-known c.self.inside.book c.self.inside.front c.self.inside.copies c.self.inside.life s (at-parts c s at) c.args.key.now c.self.inside.copies.setting c.in-Some.ttl c.args.moment c.in-Some.ensures.passes c.self.invariant.lifetimes.limits c.in-Some.ensures.ttl (unbounded c)
    (ap is_query c.requires) c.self.invariant.lean.idle refl c.self.invariant.within c.in-Some.ensures.same)))

told : (c : goal.After-shared_of) (s : State) → IsAt c.args.self.now s → read (record { commit = c.count-commit.result; clock = c.clock.result; ttl = c.in-Some.ttl; shared = c.shared_of.result; result = c.in_ok-result.result }) ≡ reply_in c.args.self.now.setting s (Read c.args.moment c.args.key.now c.args.tags.now c.count-commit.result)
told c s at =
    let commits : c.args.self.now.commits ≡ c.count-commit.result = sym (c.count-commit.ensures.count ∙ ap (λ (h : HubView). h.commits) c.self.view_is) in
    let clock : c.clock.result ≡ max s.clock c.args.moment = c.clock.ensures ∙ c.in-Some.ensures.passes.clock ∙ ap (λ (n : ℕ). max n c.args.moment) (at-parts c s at).time.clock in
    let ttl : c.in-Some.ttl ≡ ttl_of c.args.self.now.setting (at_moment s c.args.moment) c.args.key.now c.count-commit.result =
    ttl-known c.self.inside.book c.self.inside.front c.self.inside.copies c.self.inside.life s (at-parts c s at) c.args.key.now c.self.inside.copies.setting c.in-Some.ttl c.args.moment c.in-Some.ensures.passes c.self.invariant.lifetimes.limits c.in-Some.ensures.ttl (unbounded c)
    ∙ ap (λ (h : HubView). ttl_of h.setting (at_moment s c.args.moment) c.args.key.now h.commits) c.self.view_is
    ∙ ap (ttl_of c.args.self.now.setting (at_moment s c.args.moment) c.args.key.now) commits in
    let shared : c.shared_of.result ≡ shared_of c.args.self.now.setting (ttl_of c.args.self.now.setting (at_moment s c.args.moment) c.args.key.now c.count-commit.result) =
    c.shared_of.ensures ∙ ap₂ shared_of (ap (λ (h : HubView). h.setting) c.self.view_is) ttl in
    let found =
    outcome c.self.inside.book c.self.inside.front c.self.inside.copies c.self.inside.queries.entries c.self.inside.life c.args.self.now c.self.view_is c.args.key.now c.args.collection.now c.args.id.now c.requires c.args.tags.now c.count-commit.result c.count-commit.ensures.count c.in_ok-result.result c.in_ok-result.ensures
    ∙ ap (λ (n : ℕ). outcome_of (result_at c.args.key.now c.args.self.now.rows n) (known_at c.args.key.now c.args.self.now.rows c.args.self.now.horizon n c.args.tags.now)) commits
    ∙ ap₂ (λ (xs : List Change) (h : ℕ). outcome_of (result_at c.args.key.now xs c.count-commit.result) (known_at c.args.key.now xs h c.count-commit.result c.args.tags.now)) at.book.rows at.book.horizon in
    (λ i. read (record { commit = c.count-commit.result; clock = clock i; ttl = ttl i; shared = shared i; result = found i }))

pub returns-in-Some-clause-answers : goal.returns-in-Some-clause-answers
returns-in-Some-clause-answers c = record {
  last = c.count-commit.ensures.count ∙ ap (λ (h : HubView). h.commits) c.self.view_is;
  told = told c;
  stands = stands c;
}
