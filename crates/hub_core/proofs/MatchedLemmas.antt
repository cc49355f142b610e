-- What a match leaves of lifetimes and purges.
use Rattle.std.proofs.Common.{◌≡◌, ℕ, suc, ◌≤◌, Bool, true, false, not, ◌&&◌, ◌||◌, max, nat_lt, List, [], ◌∷◌, All, is_some, Option, Some, None, unwrap_or, option_map, if◌then◌else◌, refl, sym, ap, ap₂, ◌∙◌, subst, arith, inl, inr}
use Rattle.std.specs.List.{list_any}
use Rattle.std.specs.Map.{lookup}
use Rattle.std.proofs.lemmas.Bool.{cases_Bool, or_cases, le-ltb}
use Rattle.query_normal.specs.Keys.{same_key}
use Rattle.query_normal.specs.SameKey.{same_key-Decides}
use Rattle.query_normal.specs.declared.key.KeyShape.{KeyShape}
use Rattle.issued_expiries.specs.Copies.{Copy, is_active, latest_where}
use Rattle.issued_expiries.proofs.ViewLemmas.{only_above, latest_unexpired}
use Rattle.ttl_estimator.specs.Estimates.{is_known, kept_of}
use Rattle.ttl_estimator.specs.Estimator.{Estimated}
use Rattle.purge_list.specs.LastChanges.{Changes, change_of, is_known as has_change}
use Rattle.commit_book.specs.declared.change.Change.{Change}
use Rattle.commit_book.specs.Contents.{Contents}
use Rattle.hub_model.specs.Lifetime.{limits_of}
use Rattle.hub_model.specs.Outdated.{is_outdated}
use Rattle.hub_model.specs.Purge.{is_purged}
use Rattle.hub_model.specs.State.{State, at_moment}
use Rattle.hub_core.specs.declared.invalidations.Invalidation.{Invalidation}
use Rattle.hub_core.specs.declared.lifetimes.Lifetimes.{Lifetimes}
use Rattle.hub_core.specs.ActiveQueries.{is_query}
use Rattle.hub_core.specs.CopiesView.{CopiesView, Passes, is_idle}
use Rattle.hub_core.specs.HubState.{HasCopies, IsAt, hub_of}
use Rattle.hub_core.specs.Invalidations.{AreInvalidationsOf, HaveEntries, purges_at, raised_by}
use Rattle.hub_core.specs.Lifetimes.{Drops, HaveLastChanges, KeepsLifetimes, went_idle}
use Rattle.hub_core.proofs.LifeLemmas.{copy-before, lifetimes-passed, until-above, went-of}
use Rattle.hub_core.proofs.PurgeLemmas.{purged-by_invalidations, is_purged-by_copies, changes-raised}

-- ---- the keys that are purged

above-some : (clock : ℕ) (o : Option ℕ) → is_some (only_above clock o) ≡ nat_lt clock (unwrap_or o 0)
above-some clock None = sym (le-ltb clock 0 (omega arith))
above-some clock (Some until) = elim (cases_Bool (nat_lt clock until)) [ inl later ↦ rw (later) refl | inr past ↦ rw (past) refl ]

-- the invalidations purge the keys that the match purges, when the clock has moved
pub purged-at : (book : Contents) (front to moment : ℕ) (h new : CopiesView) (l : Lifetimes) (s : State) (invalidations : List Invalidation) → IsAt (hub_of book front h l) s → Passes moment h new → HasCopies new.copies (at_moment s moment) → front ≤ to →
    (changes : Changes) → HaveLastChanges book.journal front h.copies changes → AreInvalidationsOf book.journal front to h.copies invalidations → (key : KeyShape) → list_any (purges_at h.copies changes (max h.clock moment) key) invalidations ≡ is_purged (at_moment s moment) to key
purged-at book front to moment h new l s invalidations is passes moved forward changes have are key =
    let newly : List Change → ℕ → ℕ → Bool = λ journal f n. not (is_outdated key n journal f) && is_outdated key n journal to in
    purged-by_invalidations book.journal front to (max h.clock moment) h.copies changes invalidations key forward have are
    ∙ ap₂ (λ (journal : List Change) (f : ℕ). nat_lt (max h.clock moment) (unwrap_or (latest_where key (newly journal f) h.copies) 0)) is.book.rows is.time.front
    ∙ ap (λ (n : ℕ). nat_lt n (unwrap_or (latest_where key (newly s.journal s.front) h.copies) 0)) (sym passes.clock)
    ∙ sym (above-some new.clock (latest_where key (newly s.journal s.front) h.copies))
    ∙ ap is_some (sym (passes.copies key (newly s.journal s.front) ∙ latest_unexpired new.clock key (newly s.journal s.front) h.copies))
    ∙ sym (is_purged-by_copies (at_moment s moment) new.copies to key moved)

-- a purge leaves an estimate where there was one
pub some_kept : {X : Type 0} (b : Bool) (f : X → X) (o : Option X) → is_some (if b then option_map f o else o) ≡ is_some o
some_kept true f None = refl
some_kept true f (Some x) = refl
some_kept false f o = refl

-- ---- what is kept belongs together

-- with entries for last changes, and for writes
pub lifetimes-prepared : (journal : List Change) (front : ℕ) (h new : CopiesView) (l made : Lifetimes) (keys : List KeyShape) → new ≡ record h { invalidatable = keys } → made.estimator ≡ record l.estimator { records = made.estimator.records } →
    ((key : KeyShape) → change_of made.changes key ≡ change_of l.changes key) → ((key : KeyShape) → has_change made.changes key ≡ true → (has_change l.changes key || is_active h.copies key) ≡ true) → KeepsLifetimes journal front h l → KeepsLifetimes journal front new made
lifetimes-prepared journal front h new l made keys new_is estimator same there keeps =
    subst (λ (x : CopiesView). KeepsLifetimes journal front x made) (sym new_is)
    (record {
      limits = ap (λ (e : Estimated). e.limits) estimator ∙ keeps.limits;
      estimates = λ key. ap (λ (e : Estimated). is_known e.keys key) estimator ∙ keeps.estimates key;
      kept = λ key query active. ap (λ (e : Estimated). is_some (kept_of e.keys key)) estimator ∙ keeps.kept key query active;
      changes = record {
        within = λ key. subst (λ (n : ℕ). n ≤ front) (sym (same key)) (keeps.changes.within key);
        exact = λ key commit copied. ap (nat_lt commit) (same key) ∙ keeps.changes.exact key commit copied;
      };
      active = λ key known. elim (or_cases (has_change l.changes key) (is_active h.copies key) (there key known)) [
        | inl was ↦ keeps.active key was
        | inr active ↦ ap (λ (b : Bool). b || is_idle h key) active
      ];
    })

-- when the commits were matched
pub lifetimes-matched : (journal : List Change) (front to moment : ℕ) (h passed new : CopiesView) (made dropped last : Lifetimes) (invalidations : List Invalidation) → Passes moment h passed → h.idle ≡ [] → h.ready ≡ [] → passed.idle ≡ [] → Drops (went_idle h passed) made dropped → KeepsLifetimes journal front h made →
    front ≤ to → AreInvalidationsOf journal front to h.copies invalidations → All (λ m. m.commit ≤ to) invalidations → HaveEntries h.copies made.changes invalidations →
    ((key : KeyShape) → change_of last.changes key ≡ (if has_change dropped.changes key then max (change_of dropped.changes key) (raised_by key invalidations) else change_of dropped.changes key)) →
    ((key : KeyShape) → has_change last.changes key ≡ has_change dropped.changes key) → ((key : KeyShape) → is_known last.estimator.keys key ≡ is_known dropped.estimator.keys key) → ((key : KeyShape) → is_some (kept_of last.estimator.keys key) ≡ is_some (kept_of dropped.estimator.keys key)) → last.estimator.limits ≡ dropped.estimator.limits →
    new.copies ≡ passed.copies → new.idle ≡ passed.idle → new.ready ≡ passed.ready → new.setting ≡ passed.setting → KeepsLifetimes journal to new last
lifetimes-matched journal front to moment h passed new made dropped last invalidations passes idle ready none drops keeps forward are within entries raised has known kept limits copies_is idle_is ready_is setting_is =
    let after : KeepsLifetimes journal front passed dropped = lifetimes-passed h passed moment passes idle journal front made dropped ready none keeps drops in
    let stays : (key : KeyShape) → is_active passed.copies key ≡ true → lookup (same_key key) dropped.changes ≡ lookup (same_key key) made.changes =
    λ key active. drops.changes key ∙ ap (λ (b : Bool). if b then None else lookup (same_key key) made.changes) (went-of h passed key idle active) in
    let all : HaveLastChanges journal to passed.copies last.changes =
    changes-raised journal front to h.copies passed.copies made.changes dropped.changes last.changes invalidations forward keeps.changes are within
    (λ key commit there. until-above passed.clock h.copies passed.copies key commit passes.copies there)
    (λ key active. (
      ap (λ (o : Option ℕ). unwrap_or o 0) (stays key active),
      λ was listed. ap is_some (stays key active) ∙ entry key invalidations entries was listed,
    ))
    after.changes.within
    (λ key commit there. copy-before passed.clock h.copies passed.copies key commit passes.copies there)
    raised in
    record {
      limits = limits ∙ after.limits ∙ ap limits_of (sym setting_is);
      estimates = λ key. known key ∙ after.estimates key ∙ (let cs = sym copies_is in let is = sym idle_is in let rs = sym ready_is in (λ i. is_query key && ((is_active (cs i) key || list_any (same_key key) (is i)) || list_any (same_key key) (rs i))));
      kept = λ key query active. kept key ∙ after.kept key query (sym (ap (λ (xs : List Copy). is_active xs key) copies_is) ∙ active);
      changes = subst (λ (xs : List Copy). HaveLastChanges journal to xs last.changes) (sym copies_is) all;
      active = λ key there. (λ i. is_active (copies_is i) key || list_any (same_key key) (idle_is i)) ∙ after.active key (sym (has key) ∙ there);
    }
  where
    entry : (key : KeyShape) (ms : List Invalidation) → HaveEntries h.copies made.changes ms → is_active h.copies key ≡ true → list_any (λ (m : Invalidation). same_key key m.key) ms ≡ true → has_change made.changes key ≡ true
    entry key [] all was listed = absurd (let e = listed in cc)
    entry key (m ∷ ms) all was listed = elim (cases_Bool (same_key key m.key)) [
      | inl own ↦ (
          let e : key ≡ m.key = (same_key-Decides key m.key).0 own in
          ap (has_change made.changes) e ∙ all 0 m (omega arith) (ap (is_active h.copies) (sym e) ∙ was))
      | inr apart ↦ entry key ms (λ k d low. all (suc k) d (omega (arith, low))) was (rw (apart) at listed)
    ]
