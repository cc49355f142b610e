-- What is kept for lifetimes and purges, through each step.
use Rattle.std.proofs.Common.{◌≡◌, ℕ, ◌+◌, ◌-◌, ◌<◌, ◌≤◌, Bool, true, false, not, ◌&&◌, ◌||◌, ◌⊎◌, nat_lt, nat_le, ◌==◌, sum_by, List, [], ◌∷◌, ◌++◌, length, map, is_some, IsTrue, bytes_eq, drop, Option, Some, None, unwrap_or, if◌then◌else◌, refl, sym, ap, ap₂, ◌∙◌, subst, arith, inl, inr, length-append, append-nil}
use Rattle.std.specs.List.{list_any}
use Rattle.std.specs.Map.{lookup}
use Rattle.std.specs.Option.{option_map_or}
use Rattle.std.proofs.lemmas.Bool.{cases_Bool, cases_lt, and_parts, lt-ltb, le-ltb, le-leb, eqb-true}
use Rattle.std.proofs.Math.Bool.{and-false}
use Rattle.std.proofs.lemmas.Map.Made.{length-from_keys}
use Rattle.std.proofs.lemmas.List.Sums.{sum_by-cons}
use Rattle.std.proofs.lemmas.List.{drop-append-le, length-drop, drop-drop}
use Rattle.std.proofs.lemmas.Slice.Eq.{bytes_eq-Decides}
use Rattle.query_normal.specs.Keys.{same_key}
use Rattle.query_normal.specs.SameKey.{same_key-Decides, same_key_equiv}
use Rattle.query_normal.specs.declared.key.KeyShape.{KeyShape}
use Rattle.query_normal.specs.declared.key.KeyShape.TheVariants.{Record, Query}
use Rattle.query_core.specs.Window.{Row, window}
use Rattle.issued_expiries.specs.Copies.{Copy, SameCopies, latest_where, unexpired, until_at, is_active, active_keys}
use Rattle.issued_expiries.specs.Expiries.{Issued}
use Rattle.issued_expiries.proofs.LawLemmas.{active_alike}
use Rattle.issued_expiries.proofs.ViewLemmas.{only_above, latest_unexpired, active_is}
use Rattle.ttl_estimator.specs.declared.estimates.Kept.{Kept}
use Rattle.ttl_estimator.specs.Estimates.{Entries, after_issue, is_known, kept_of}
use Rattle.ttl_estimator.specs.Estimator.{Estimated, none_noted, estimate_of, lifetime, rate_of, rates_of}
use Rattle.ttl_estimator.specs.Lifetime.{is_refused, query_lifetime, record_lifetime}
use Rattle.ttl_estimator.specs.declared.limits.Limits.{Limits}
use Rattle.ttl_estimator.specs.Rates.{last_eight, rate_at}
use Rattle.ttl_estimator.specs.Records.{Names, ExtendsAll, IsKeptOrNew, clocks_of, entry_of}
use Rattle.purge_list.specs.LastChanges.{Changes, change_of, is_known as has_change}
use Rattle.commit_book.specs.declared.change.Change.{Change}
use Rattle.commit_book.specs.Documents.{docs}
use Rattle.hub_model.specs.Copies.{live, active_keys as active_of, is_active as is_active_in}
use Rattle.hub_model.specs.Kept.{kept_if, kept_in, newest_estimate}
use Rattle.hub_model.specs.Lifetime.{estimate, estimated_ttl, last_issue, limits_of, record_rate, write_clocks, ttl_of}
use Rattle.hub_model.specs.Setting.{Setting}
use Rattle.hub_model.specs.State.{IssuedCopy, State, at_moment}
use Rattle.hub_model.specs.Step.{has_read, with_change}
use Rattle.hub_model.proofs.Kept.{active-before, clocks-write, estimate-kept, kept-passed, kept-read}
use Rattle.hub_model.proofs.KeySets.{among-unique, distinct-unique}
use Rattle.hub_model.proofs.Recorded.{is_outdated-append, not_outdated}
use Rattle.hub_core.specs.declared.lifetimes.Lifetimes.{Lifetimes}
use Rattle.hub_core.specs.ActiveQueries.{is_query}
use Rattle.hub_core.specs.CopiesView.{CopiesView, Passes, is_idle, may_issue}
use Rattle.hub_core.specs.HubState.{HasCopies, HasEstimates, HasWrites}
use Rattle.hub_core.specs.Lifetimes.{Drops, ids_at, KeepsLifetimes, has_copy, has_estimate, kept_while, went_idle}
use Rattle.hub_core.proofs.InvalidationLemmas.{any-map}
use Rattle.hub_core.proofs.PurgeLemmas.{active-held}
use Rattle.hub_core.proofs.StateLemmas.{active-copies}

-- ---- keys that are dropped

pub drops-none : (gone : KeyShape → Bool) (l : Lifetimes) → ((key : KeyShape) → gone key ≡ false) → Drops gone l l
drops-none gone l none = record {
  kept = λ key. ap (λ (b : Bool). if b then None else kept_of l.estimator.keys key) (sym (none key));
  known = λ key. ap (λ (b : Bool). not b && is_known l.estimator.keys key) (sym (none key));
  changes = λ key. ap (λ (b : Bool). if b then None else lookup (same_key key) l.changes) (sym (none key));
  rest = refl;
}

pub drops-as : (p q : KeyShape → Bool) (a b : Lifetimes) → ((key : KeyShape) → p key ≡ q key) → Drops p a b → Drops q a b
drops-as p q a b same drops = record {
  kept = λ key. drops.kept key ∙ ap (λ (t : Bool). if t then None else kept_of a.estimator.keys key) (same key);
  known = λ key. drops.known key ∙ ap (λ (t : Bool). not t && is_known a.estimator.keys key) (same key);
  changes = λ key. drops.changes key ∙ ap (λ (t : Bool). if t then None else lookup (same_key key) a.changes) (same key);
  rest = drops.rest;
}

pub drops-then : (p q : KeyShape → Bool) (a b c : Lifetimes) → Drops p a b → Drops q b c → Drops (λ key. p key || q key) a c
drops-then p q a b c first second = record {
  kept = λ key. second.kept key ∙ ap (λ (o : Option Kept). if q key then None else o) (first.kept key) ∙ of_kept (p key) (q key) (kept_of a.estimator.keys key);
  known = λ key. second.known key ∙ ap (λ (t : Bool). not (q key) && t) (first.known key) ∙ of_known (p key) (q key) (is_known a.estimator.keys key);
  changes = λ key. second.changes key ∙ ap (λ (o : Option ℕ). if q key then None else o) (first.changes key) ∙ of_change (p key) (q key) (lookup (same_key key) a.changes);
  rest = second.rest ∙ ap (λ (l : Lifetimes). record l { estimator = record l.estimator { keys = c.estimator.keys }; changes = c.changes }) first.rest;
}
  where
    of_kept : (s t : Bool) (o : Option Kept) → (if t then None else (if s then None else o)) ≡ (if s || t then None else o)
    of_kept true true o = refl
    of_kept true false o = refl
    of_kept false t o = refl

    of_change : (s t : Bool) (o : Option ℕ) → (if t then None else (if s then None else o)) ≡ (if s || t then None else o)
    of_change true true o = refl
    of_change true false o = refl
    of_change false t o = refl

    of_known : (s t k : Bool) → (not t && (not s && k)) ≡ (not (s || t) && k)
    of_known true true k = refl
    of_known true false k = refl
    of_known false t k = refl

-- one key of those that are idle
pub one-dropped : (key : KeyShape) (was is : KeyShape → Bool) (a b : Lifetimes) → was key ≡ true → ((other : KeyShape) → is other ≡ (not (same_key key other) && was other)) → Drops (same_key key) a b → Drops (λ other. was other && not (is other)) a b
one-dropped key was is a b own left drops =
    drops-as (same_key key) (λ other. was other && not (is other)) a b
    (λ other. elim (cases_Bool (same_key key other)) [
      | inl same ↦ (
          let e : key ≡ other = (same_key-Decides key other).0 same in
          let w : was other ≡ true = ap was (sym e) ∙ own in
          let i : is other ≡ false = left other ∙ rw (same) refl in
          rw (same, w, i) refl)
      | inr apart ↦ (
          let i : is other ≡ was other = left other ∙ rw (apart) refl in
          apart ∙ sym (ap (λ (t : Bool). was other && not t) i ∙ neither (was other)))
    ]) drops
  where
    neither : (t : Bool) → (t && not t) ≡ false
    neither true = refl
    neither false = refl

-- further idle keys, after some
pub more-dropped : (first middle last : KeyShape → Bool) (a b c : Lifetimes) → ((key : KeyShape) → middle key ≡ true → first key ≡ true) → ((key : KeyShape) → last key ≡ true → middle key ≡ true) →
    Drops (λ key. first key && not (middle key)) a b → Drops (λ key. middle key && not (last key)) b c → Drops (λ key. first key && not (last key)) a c
more-dropped first middle last a b c less fewer before after =
    drops-as (λ key. (first key && not (middle key)) || (middle key && not (last key))) (λ key. first key && not (last key)) a c
    (λ key. by (first key) (middle key) (last key) (less key) (fewer key))
    (drops-then (λ key. first key && not (middle key)) (λ key. middle key && not (last key)) a b c before after)
  where
    by : (f m l : Bool) → (m ≡ true → f ≡ true) → (l ≡ true → m ≡ true) → ((f && not m) || (m && not l)) ≡ (f && not l)
    by true true l h k = refl
    by true false true h k = absurd (let e = k refl in cc)
    by true false false h k = refl
    by false true l h k = absurd (let e = h refl in cc)
    by false false l h k = refl

pub no-change : (t : Bool) → (t && not t) ≡ false
no-change true = refl
no-change false = refl

-- all idle keys, where none is left
pub all-dropped : (first last : KeyShape → Bool) (a b : Lifetimes) → ((key : KeyShape) → last key ≡ false) → Drops (λ key. first key && not (last key)) a b → Drops first a b
all-dropped first last a b none drops =
    drops-as (λ key. first key && not (last key)) first a b
    (λ key. ap (λ (t : Bool). first key && not t) (none key) ∙ kept (first key)) drops
  where
    kept : (t : Bool) → (t && true) ≡ t
    kept true = refl
    kept false = refl

-- ---- the clock moves

-- a copy that is unexpired later was so before
pub copy-before : (clock : ℕ) (old new : List Copy) (key : KeyShape) (commit : ℕ) → SameCopies new (unexpired clock old) → has_copy new key commit ≡ true → has_copy old key commit ≡ true
copy-before clock old new key commit same there =
    was (latest_where key (λ other. other == commit) old)
    (ap is_some (sym (latest_unexpired clock key (λ other. other == commit) old)) ∙ ap is_some (sym (same key (λ other. other == commit))) ∙ there)
  where
    was : (o : Option ℕ) → is_some (only_above clock o) ≡ true → is_some o ≡ true
    was None h = h
    was (Some until) h = refl

-- and its until was above 0
pub until-above : (clock : ℕ) (old new : List Copy) (key : KeyShape) (commit : ℕ) → SameCopies new (unexpired clock old) → has_copy new key commit ≡ true → 0 < unwrap_or (until_at old key commit) 0
until-above clock old new key commit same there =
    was (latest_where key (λ other. other == commit) old)
    (ap is_some (sym (latest_unexpired clock key (λ other. other == commit) old)) ∙ ap is_some (sym (same key (λ other. other == commit))) ∙ there)
  where
    was : (o : Option ℕ) → is_some (only_above clock o) ≡ true → 0 < unwrap_or o 0
    was None h = absurd (let e = h in cc)
    was (Some until) h = elim (cases_lt clock until) [
      | inl later ↦ omega (arith, later)
      | inr past ↦ absurd (let e : is_some (only_above clock (Some until)) ≡ false = rw (le-ltb clock until past) refl in cc)
    ]

-- no idle key
idle-none : (h : CopiesView) (key : KeyShape) → h.idle ≡ [] → is_idle h key ≡ false
idle-none h key none = ap (list_any (same_key key)) none

-- a key that is still active did not become idle
pub went-of : (h new : CopiesView) (key : KeyShape) → h.idle ≡ [] → is_active new.copies key ≡ true → went_idle h new key ≡ false
went-of h new key none active =
    ap₂ (λ (a b : Bool). a || (is_active h.copies key && not b)) (idle-none h key none) active ∙ nothing (is_active h.copies key)
  where
    nothing : (b : Bool) → (false || (b && false)) ≡ false
    nothing true = refl
    nothing false = refl

-- when the clock of copies moves
module _ (h new : CopiesView) (moment : ℕ) (passes : Passes moment h new) (idle : h.idle ≡ []) where
  active-was : (key : KeyShape) → is_active new.copies key ≡ true → is_active h.copies key ≡ true
  active-was key active =
      active_is h.copies key ∙ was (latest_where key (λ commit. true) h.copies)
      (ap is_some (sym (latest_unexpired new.clock key (λ commit. true) h.copies)) ∙ ap is_some (sym (passes.copies key (λ commit. true))) ∙ sym (active_is new.copies key) ∙ active)
    where
      was : (o : Option ℕ) → is_some (only_above new.clock o) ≡ true → is_some o ≡ true
      was None e = e
      was (Some until) e = refl

  went : (key : KeyShape) → went_idle h new key ≡ (is_active h.copies key && not (is_active new.copies key))
  went key = ap (λ (b : Bool). b || (is_active h.copies key && not (is_active new.copies key))) (idle-none h key idle)

  -- the estimates are those of the state
  pub estimates-passed : (keys after : Entries) (s : State) → HasCopies h.copies s → HasCopies new.copies (at_moment s moment) → HasEstimates keys s → ((key : KeyShape) → kept_of after key ≡ (if went_idle h new key then None else kept_of keys key)) → HasEstimates after (at_moment s moment)
  estimates-passed keys after s was is have dropped key query =
      dropped key
      ∙ ap₂ (λ (b : Bool) (o : Option Kept). if b then None else o) (went key ∙ ap₂ (λ (a b : Bool). a && not b) (active-copies h.copies s was key) (active-copies new.copies (at_moment s moment) is key)) (have key query)
      ∙ by (is_active_in s key) (is_active_in (at_moment s moment) key) (active-before s moment key) refl
      ∙ sym (kept-passed s moment key)
    where
      by : (a b : Bool) → (b ≡ true → a ≡ true) → is_active_in s key ≡ a → (if a && not b then None else kept_in s key) ≡ (if b then kept_in s key else None)
      by true true before active = refl
      by true false before active = refl
      by false true before active = absurd (let e = before refl in cc)
      by false false before active = ap (λ (t : Bool). kept_if t (newest_estimate s key) (last_issue s key)) active

  -- what is kept belongs together with the copies still
  pub lifetimes-passed : (journal : List Change) (front : ℕ) (l after : Lifetimes) → h.ready ≡ [] → new.idle ≡ [] → KeepsLifetimes journal front h l → Drops (went_idle h new) l after → KeepsLifetimes journal front new after
  lifetimes-passed journal front l after ready none keeps drops = record {
    limits = ap (λ (x : Lifetimes). x.estimator.limits) drops.rest ∙ keeps.limits ∙ ap (λ (x : CopiesView). limits_of x.setting) (sym passes.rest);
    estimates = λ key.
        drops.known key
        ∙ ap₂ (λ (a b : Bool). not a && b) (went key) (keeps.estimates key ∙ ap₂ (λ (a b : Bool). is_query key && ((is_active h.copies key || a) || b)) (idle-none h key idle) (ap (list_any (same_key key)) ready))
        ∙ still (is_query key) (is_active h.copies key) (is_active new.copies key) (active-was key)
        ∙ sym (ap₂ (λ (a b : Bool). is_query key && ((is_active new.copies key || a) || b)) (idle-none new key none) (ap (list_any (same_key key)) (ap (λ (x : CopiesView). x.ready) passes.rest ∙ ready)));
    kept = λ key query active.
        ap is_some (drops.kept key ∙ ap (λ (b : Bool). if b then None else kept_of l.estimator.keys key) (went key ∙ ap₂ (λ (a b : Bool). a && not b) (active-was key active) active))
        ∙ keeps.kept key query (active-was key active);
    changes = record {
      within = λ key. low (went_idle h new key) (lookup (same_key key) l.changes) (lookup (same_key key) after.changes) (drops.changes key) (keeps.changes.within key);
      exact = λ key commit there.
          let active : is_active new.copies key ≡ true = active-held new.copies key commit there in
          let stays : went_idle h new key ≡ false = went key ∙ ap₂ (λ (a b : Bool). a && not b) (active-was key active) active in
          let same : lookup (same_key key) after.changes ≡ lookup (same_key key) l.changes = drops.changes key ∙ ap (λ (b : Bool). if b then None else lookup (same_key key) l.changes) stays in
          ap (λ (o : Option ℕ). nat_lt commit (unwrap_or o 0)) same ∙ keeps.changes.exact key commit (copy-before new.clock h.copies new.copies key commit passes.copies there);
    };
    active = λ key known. ap (λ (b : Bool). is_active new.copies key || b) (idle-none new key none) ∙ or_false (is_active new.copies key)
        ∙ kept_active (went_idle h new key) (is_active h.copies key) (is_active new.copies key) (lookup (same_key key) l.changes) (lookup (same_key key) after.changes) (went key) (drops.changes key) known
        (λ there. sym (or_false (is_active h.copies key)) ∙ ap (λ (b : Bool). is_active h.copies key || b) (sym (idle-none h key idle)) ∙ keeps.active key there);
  }
    where
      or_false : (b : Bool) → (b || false) ≡ b
      or_false true = refl
      or_false false = refl

      still : (q a b : Bool) → (b ≡ true → a ≡ true) → (not (a && not b) && (q && ((a || false) || false))) ≡ (q && ((b || false) || false))
      still q true true was = refl
      still true true false was = refl
      still false true false was = refl
      still q false true was = absurd (let e = was refl in cc)
      still true false false was = refl
      still false false false was = refl

      low : (gone : Bool) (old o : Option ℕ) → o ≡ (if gone then None else old) → unwrap_or old 0 ≤ front → unwrap_or o 0 ≤ front
      low true old o is within = (let e : unwrap_or o 0 ≡ 0 = ap (λ (x : Option ℕ). unwrap_or x 0) is in omega (arith, e))
      low false old o is within = (let e : unwrap_or o 0 ≡ unwrap_or old 0 = ap (λ (x : Option ℕ). unwrap_or x 0) is in omega (arith, e, within))

      kept_active : (gone a b : Bool) (old o : Option ℕ) → gone ≡ (a && not b) → o ≡ (if gone then None else old) → is_some o ≡ true → (is_some old ≡ true → a ≡ true) → b ≡ true
      kept_active true a b old o is same known was = absurd (let e : is_some o ≡ false = ap is_some same in cc)
      kept_active false a true old o is same known was = refl
      kept_active false a false old o is same known was = absurd (let e : a ≡ true = was (ap is_some (sym same) ∙ known) in cc)

-- ---- a commit

-- a longer journal outdates no copy
pub lifetimes-longer : (journal more : List Change) (front : ℕ) (h : CopiesView) (l : Lifetimes) → front ≤ length journal → KeepsLifetimes journal front h l → KeepsLifetimes (journal ++ more) front h l
lifetimes-longer journal more front h l within keeps = record {
  limits = keeps.limits;
  estimates = keeps.estimates;
  kept = keeps.kept;
  changes = record {
    within = keeps.changes.within;
    exact = λ key commit there. keeps.changes.exact key commit there ∙ sym (is_outdated-append key commit journal more front within);
  };
  active = keeps.active;
}

-- other records that were written change nothing of it
pub lifetimes-records : (journal : List Change) (front : ℕ) (h : CopiesView) (l : Lifetimes) (records : Names) → KeepsLifetimes journal front h l → KeepsLifetimes journal front h (record l { estimator = record l.estimator { records = records } })
lifetimes-records journal front h l records keeps = record { limits = keeps.limits; estimates = keeps.estimates; kept = keeps.kept; changes = keeps.changes; active = keeps.active }

-- one clock more behind the last eight, or behind all
last_again : (clocks : List ℕ) (clock : ℕ) → last_eight (last_eight clocks ++ clock ∷ []) ≡ last_eight (clocks ++ clock ∷ [])
last_again clocks clock =
    let n = length clocks - 8 in
    let joined : last_eight clocks ++ clock ∷ [] ≡ drop n (clocks ++ clock ∷ []) = sym (drop-append-le n clocks (clock ∷ []) (omega arith)) in
    let size = length-append clocks (clock ∷ []) in
    let left = length-drop n (clocks ++ clock ∷ []) in
    let m = length (drop n (clocks ++ clock ∷ [])) - 8 in
    let both : n + m ≡ length (clocks ++ clock ∷ []) - 8 = omega (arith, size, left) in
    ap last_eight joined
    ∙ drop-drop m n (clocks ++ clock ∷ [])
    ∙ ap (λ (k : ℕ). drop k (clocks ++ clock ∷ [])) both

-- an entry that is as it was or new has the same clocks
same-clocks : (old new : Option (List ℕ)) → IsKeptOrNew old new → unwrap_or new [] ≡ unwrap_or old []
same-clocks old new (inl same) = ap (λ (o : Option (List ℕ)). unwrap_or o []) same
same-clocks old new (inr added) = ap (λ (o : Option (List ℕ)). unwrap_or o []) added.1 ∙ sym (ap (λ (o : Option (List ℕ)). unwrap_or o []) added.0)

pub writes-extended : (old new : Names) (s : State) → ExtendsAll old new → HasWrites old s → HasWrites new s
writes-extended old new s extends have collection id = same-clocks (entry_of old collection id) (entry_of new collection id) (extends collection id) ∙ have collection id

-- the clock of an accepted change
pub writes-noted : (old new : Names) (s : State) (change : Change) → HasWrites old s → ((c i : List ℕ) → entry_of new c i ≡ (if bytes_eq change.collection c && bytes_eq change.id i then Some (last_eight (clocks_of old change.collection change.id ++ s.clock ∷ [])) else entry_of old c i)) → HasWrites new (with_change change s)
writes-noted old new s change have noted collection id =
    ap (λ (o : Option (List ℕ)). unwrap_or o []) (noted collection id)
    ∙ by (bytes_eq change.collection collection && bytes_eq change.id id) refl
    ∙ sym (ap last_eight (clocks-write s change collection id))
  where
    by : (b : Bool) → (bytes_eq change.collection collection && bytes_eq change.id id) ≡ b → unwrap_or (if b then Some (last_eight (clocks_of old change.collection change.id ++ s.clock ∷ [])) else entry_of old collection id) [] ≡ last_eight (write_clocks s collection id ++ (if b then s.clock ∷ [] else []))
    by true same =
        let parts = and_parts (bytes_eq change.collection collection) (bytes_eq change.id id) same in
        let c : change.collection ≡ collection = (bytes_eq-Decides change.collection collection).0 parts.0 in
        let i : change.id ≡ id = (bytes_eq-Decides change.id id).0 parts.1 in
        ap (λ (l : List ℕ). last_eight (l ++ s.clock ∷ [])) (ap₂ (λ (a b : List ℕ). clocks_of old a b) c i ∙ have collection id)
        ∙ last_again (write_clocks s collection id) s.clock
    by false other = have collection id ∙ ap last_eight (sym (append-nil (write_clocks s collection id)))

-- ---- a read

-- when a copy of a key was read: the clock of the copies moves, the copy is issued for a lifetime, its estimate is noted, and what is idle is dropped
module _ (h moved new : CopiesView) (moment : ℕ) (passes : Passes moment h moved) (idle : h.idle ≡ []) (key : KeyShape) (at ttl : ℕ)
    (went_is : (other : KeyShape) → is_idle moved other ≡ (is_idle h other || is_active h.copies other && not (is_active moved.copies other)))
    (idle_is : (other : KeyShape) → is_idle new other ≡ (not (same_key key other && nat_lt 0 ttl) && is_idle moved other)) where
  -- the estimate that a query's key has then
  abbrev pub read-kept : Entries → Option Kept
  read-kept keys = if nat_lt 0 ttl then Some (after_issue ttl moved.clock (kept_while (is_active moved.copies key) (kept_of keys key))) else kept_while (is_active moved.copies key) (kept_of keys key)

  went-idle : (other : KeyShape) → is_idle moved other ≡ (is_active h.copies other && not (is_active moved.copies other))
  went-idle other = went_is other ∙ ap (λ (b : Bool). b || (is_active h.copies other && not (is_active moved.copies other))) (idle-none h other idle)

  pub estimates-read : (g : Setting) (s : State) (keys noted after : Entries) → HasCopies h.copies s → HasCopies moved.copies (at_moment s moment) → moved.clock ≡ (at_moment s moment).clock → ttl ≡ ttl_of g (at_moment s moment) key at → HasEstimates keys s →
      ((other : KeyShape) → kept_of noted other ≡ (if same_key key other && is_query key then read-kept keys else kept_of keys other)) →
      ((other : KeyShape) → kept_of after other ≡ (if is_idle new other then None else kept_of noted other)) → HasEstimates after (has_read g key at (at_moment s moment))
  estimates-read g s keys noted after was is clock life have note drop other query = elim (cases_Bool (same_key key other)) [
    | inl own ↦ (
        let e : key ≡ other = (same_key-Decides key other).0 own in
        subst (λ (k : KeyShape). kept_of after k ≡ kept_in (has_read g key at t) k) e (itself (ap is_query e ∙ query)))
    | inr apart ↦ (
        let noted_is : kept_of noted other ≡ kept_of keys other = note other ∙ ap (λ (b : Bool). if b && is_query key then read-kept keys else kept_of keys other) apart in
        let gone : is_idle new other ≡ (is_active_in s other && not (is_active_in t other)) = idle_is other ∙ ap (λ (b : Bool). not (b && nat_lt 0 ttl) && is_idle moved other) apart ∙ moved_idle other in
        drop other
        ∙ ap₂ (λ (b : Bool) (o : Option Kept). if b then None else o) gone (noted_is ∙ have other query)
        ∙ by (is_active_in s other) (is_active_in t other) (active-before s moment other) refl
        ∙ sym (kept-passed s moment other)
        ∙ sym (kept-read g t key at other ∙ ap (λ (b : Bool). if b && nat_lt 0 (ttl_of g t key at) then Some (after_issue (ttl_of g t key at) t.clock (kept_in t key)) else kept_in t other) apart))
  ]
    where
      t : State
      t = at_moment s moment

      moved_idle : (k : KeyShape) → is_idle moved k ≡ (is_active_in s k && not (is_active_in t k))
      moved_idle k = went-idle k ∙ ap₂ (λ (a b : Bool). a && not b) (active-copies h.copies s was k) (active-copies moved.copies t is k)

      by : (a b : Bool) → (b ≡ true → a ≡ true) → is_active_in s other ≡ a → (if a && not b then None else kept_in s other) ≡ (if b then kept_in s other else None)
      by true true before active = refl
      by true false before active = refl
      by false true before active = absurd (let x = before refl in cc)
      by false false before active = ap (λ (b : Bool). kept_if b (newest_estimate s other) (last_issue s other)) active

      -- the key itself
      itself : is_query key ≡ true → kept_of after key ≡ kept_in (has_read g key at t) key
      itself own_query =
          let own : same_key key key ≡ true = (same_key-Decides key key).1 refl in
          let before : kept_while (is_active moved.copies key) (kept_of keys key) ≡ kept_in t key =
          ap₂ kept_while (active-copies moved.copies t is key) (have key own_query) ∙ sym (kept-passed s moment key) in
          let now : read-kept keys ≡ (if nat_lt 0 (ttl_of g t key at) then Some (after_issue (ttl_of g t key at) t.clock (kept_in t key)) else kept_in t key) =
          (λ i. if nat_lt 0 (life i) then Some (after_issue (life i) (clock i) (before i)) else before i) in
          let noted_is : kept_of noted key ≡ (if nat_lt 0 (ttl_of g t key at) then Some (after_issue (ttl_of g t key at) t.clock (kept_in t key)) else kept_in t key) =
          note key ∙ ap₂ (λ (a b : Bool). if a && b then read-kept keys else kept_of keys key) own own_query ∙ now in
          let gone : is_idle new key ≡ (not (true && nat_lt 0 (ttl_of g t key at)) && (is_active_in s key && not (is_active_in t key))) =
          idle_is key ∙ (λ i. not (own i && nat_lt 0 (life i)) && moved_idle key i) in
          drop key
          ∙ ap₂ (λ (b : Bool) (o : Option Kept). if b then None else o) gone noted_is
          ∙ last (nat_lt 0 (ttl_of g t key at)) (is_active_in s key) (is_active_in t key) refl
          ∙ sym (kept-read g t key at key ∙ ap (λ (b : Bool). if b && nat_lt 0 (ttl_of g t key at) then Some (after_issue (ttl_of g t key at) t.clock (kept_in t key)) else kept_in t key) own)
        where
          last : (some a b : Bool) → is_active_in t key ≡ b → (if not (true && some) && (a && not b) then None else (if some then Some (after_issue (ttl_of g t key at) t.clock (kept_in t key)) else kept_in t key))
              ≡ (if true && some then Some (after_issue (ttl_of g t key at) t.clock (kept_in t key)) else kept_in t key)
          last true a b active = refl
          last false true true active = refl
          last false true false active = sym (ap (λ (c : Bool). kept_if c (newest_estimate t key) (last_issue t key)) active)
          last false false b active = refl

-- where nothing passes and nothing is issued, the estimates are those after the read of a record's key
pub estimates-known : (h : CopiesView) (moment : ℕ) → Passes moment h h → h.idle ≡ [] → (key : KeyShape) (at ttl : ℕ) → is_query key ≡ false → (g : Setting) (s : State) (keys : Entries) → HasCopies h.copies s → HasCopies h.copies (at_moment s moment) → h.clock ≡ (at_moment s moment).clock →
    ttl ≡ ttl_of g (at_moment s moment) key at → HasEstimates keys s → HasEstimates keys (has_read g key at (at_moment s moment))
estimates-known h moment passes idle key at ttl kind g s keys was is clock life have =
    estimates-read h h h moment passes idle key at ttl
    (λ other. none other ∙ sym (ap (λ (b : Bool). b || (is_active h.copies other && not (is_active h.copies other))) (none other) ∙ never (is_active h.copies other)))
    (λ other. none other ∙ sym (ap (λ (b : Bool). not (same_key key other && nat_lt 0 ttl) && b) (none other) ∙ and-false (not (same_key key other && nat_lt 0 ttl))))
    g s keys keys keys was is clock life have
    (λ other. sym (ap (λ (b : Bool). if b then (if nat_lt 0 ttl then Some (after_issue ttl h.clock (kept_while (is_active h.copies key) (kept_of keys key))) else kept_while (is_active h.copies key) (kept_of keys key)) else kept_of keys other)
    (ap (λ (b : Bool). same_key key other && b) kind ∙ and-false (same_key key other))))
    (λ other. sym (ap (λ (b : Bool). if b then None else kept_of keys other) (none other)))
  where
    none : (other : KeyShape) → is_idle h other ≡ false
    none other = idle-none h other idle

    never : (b : Bool) → (b && not b) ≡ false
    never true = refl
    never false = refl

-- what was noted of a read, by the copies at its clock
pub noted-as : (keys noted : Entries) (key : KeyShape) (ttl : ℕ) (active was : Bool) (clock now : ℕ) → active ≡ was → clock ≡ now →
    ((other : KeyShape) → kept_of noted other ≡ (if same_key key other && is_query key then (if nat_lt 0 ttl then Some (after_issue ttl clock (kept_while active (kept_of keys key))) else kept_while active (kept_of keys key)) else kept_of keys other)) →
    (other : KeyShape) → kept_of noted other ≡ (if same_key key other && is_query key then (if nat_lt 0 ttl then Some (after_issue ttl now (kept_while was (kept_of keys key))) else kept_while was (kept_of keys key)) else kept_of keys other)
noted-as keys noted key ttl active was clock now active_is clock_is kept other =
    kept other ∙ (λ i. if same_key key other && is_query key then (if nat_lt 0 ttl then Some (after_issue ttl (clock_is i) (kept_while (active_is i) (kept_of keys key))) else kept_while (active_is i) (kept_of keys key)) else kept_of keys other)

-- ---- what is kept belongs together after a read

-- of the same read
module _ (h moved issued new : CopiesView) (moment : ℕ) (passes : Passes moment h moved) (idle : h.idle ≡ []) (key : KeyShape) (at ttl until : ℕ)
    (went_is : (other : KeyShape) → is_idle moved other ≡ (is_idle h other || is_active h.copies other && not (is_active moved.copies other)))
    (idle_is : (other : KeyShape) → is_idle issued other ≡ (not (same_key key other && nat_lt 0 ttl) && is_idle moved other))
    (copies_is : SameCopies issued.copies (if nat_lt 0 ttl then (key, at, until) ∷ moved.copies else moved.copies)) where
  -- a copy is that which was issued, or was there before
  copy-split : (other : KeyShape) (commit : ℕ) → has_copy issued.copies other commit ≡ true → ((same_key key other ≡ true) × (nat_lt 0 ttl ≡ true) × (at ≡ commit)) ⊎ (has_copy moved.copies other commit ≡ true)
  copy-split other commit there = by (nat_lt 0 ttl) refl (ap is_some (sym (copies_is other (λ n. n == commit))) ∙ there)
    where
      by : (b : Bool) → nat_lt 0 ttl ≡ b → is_some (latest_where other (λ n. n == commit) (if b then (key, at, until) ∷ moved.copies else moved.copies)) ≡ true → ((same_key key other ≡ true) × (nat_lt 0 ttl ≡ true) × (at ≡ commit)) ⊎ (has_copy moved.copies other commit ≡ true)
      by false none found = inr found
      by true some found = elim (cases_Bool (same_key other key)) [
        | inl own ↦ elim (cases_Bool (at == commit)) [
          | inl here ↦ inl (same_key_equiv.symm key other ∙ own, some, eqb-true at commit here)
          | inr elsewhere ↦ inr (rw (own, elsewhere) at found)
        ]
        | inr apart ↦ inr (rw (apart) at found)
      ]

  active-issued : (other : KeyShape) → is_active issued.copies other ≡ ((same_key key other && nat_lt 0 ttl) || is_active moved.copies other)
  active-issued other =
      active_alike issued.copies (if nat_lt 0 ttl then (key, at, until) ∷ moved.copies else moved.copies) other copies_is
      ∙ by (nat_lt 0 ttl)
      ∙ ap (λ (b : Bool). (b && nat_lt 0 ttl) || is_active moved.copies other) (same_key_equiv.symm other key)
    where
      by : (b : Bool) → is_active (if b then (key, at, until) ∷ moved.copies else moved.copies) other ≡ ((same_key other key && b) || is_active moved.copies other)
      by true = (λ i. and_true (same_key other key) i || is_active moved.copies other)
        where
          and_true : (b : Bool) → b ≡ (b && true)
          and_true true = refl
          and_true false = refl
      by false = ap (λ (b : Bool). b || is_active moved.copies other) (and_false (same_key other key))
        where
          and_false : (b : Bool) → false ≡ (b && false)
          and_false true = refl
          and_false false = refl

  idle-issued : (other : KeyShape) → is_idle issued other ≡ (not (same_key key other && nat_lt 0 ttl) && (is_active h.copies other && not (is_active moved.copies other)))
  idle-issued other = idle_is other ∙ ap (λ (b : Bool). not (same_key key other && nat_lt 0 ttl) && b) (went_is other ∙ ap (λ (b : Bool). b || (is_active h.copies other && not (is_active moved.copies other))) (idle-none h other idle))

  pub lifetimes-read : (journal : List Change) (front : ℕ) (l noted after : Lifetimes) → front ≤ at →
      ((other : KeyShape) → same_key key other ≡ false → list_any (same_key other) h.ready ≡ false) →
      noted ≡ record l { estimator = record l.estimator { keys = noted.estimator.keys } } →
      ((other : KeyShape) → kept_of noted.estimator.keys other ≡ (if same_key key other && is_query key then (if nat_lt 0 ttl then Some (after_issue ttl moved.clock (kept_while (is_active moved.copies key) (kept_of l.estimator.keys key))) else kept_while (is_active moved.copies key) (kept_of l.estimator.keys key)) else kept_of l.estimator.keys other)) →
      ((other : KeyShape) → is_known noted.estimator.keys other ≡ (if same_key key other && is_query key then is_some (kept_of noted.estimator.keys key) else is_known l.estimator.keys other)) →
      Drops (is_idle issued) noted after → new ≡ record issued { idle = [] } → new.setting ≡ h.setting → issued.ready ≡ [] → KeepsLifetimes journal front h l → KeepsLifetimes journal front new after
  lifetimes-read journal front l noted after within alone note kept known drops new_is setting ready keeps = record {
    limits = ap (λ (x : Lifetimes). x.estimator.limits) (drops.rest ∙ ap (λ (x : Lifetimes). record x { estimator = record x.estimator { keys = after.estimator.keys }; changes = after.changes }) note) ∙ keeps.limits ∙ ap limits_of (sym setting);
    estimates = λ other.
        drops.known other
        ∙ ap₂ (λ (a b : Bool). not a && b) (idle-issued other) (known other)
        ∙ elim (cases_Bool (same_key key other)) [
          | inl own ↦ of_own other own
          | inr apart ↦ of_other other apart
        ]
        ∙ sym (ap (λ (x : CopiesView). has_estimate x other) new_is ∙ ap₂ (λ (a b : Bool). is_query other && ((a || false) || b)) (active-issued other) (ap (list_any (same_key other)) ready));
    kept = λ other query active. kept_still other query (sym (ap (λ (x : CopiesView). is_active x.copies other) new_is) ∙ active);
    changes = record {
      within = λ other. low (is_idle issued other) (lookup (same_key other) noted.changes) (lookup (same_key other) after.changes) (drops.changes other) (ap (λ (x : Lifetimes). change_of x.changes other) note) (keeps.changes.within other);
      exact = λ other commit there.
          let found : has_copy issued.copies other commit ≡ true = ap (λ (x : CopiesView). has_copy x.copies other commit) (sym new_is) ∙ there in
          elim (copy-split other commit found) [
            | inl own ↦ (
                let e : key ≡ other = (same_key-Decides key other).0 own.0 in
                let stays : is_idle issued other ≡ false = idle-issued other ∙ ap₂ (λ (a b : Bool). not (a && b) && (is_active h.copies other && not (is_active moved.copies other))) own.0 own.1 in
                let same : change_of after.changes other ≡ change_of l.changes other = unchanged other stays in
                let below = keeps.changes.within other in
                let c = own.2 in
                le-ltb commit (change_of after.changes other) (omega (arith, same, below, within, c))
                ∙ sym (not_outdated other commit journal front (omega (arith, within, c))))
            | inr old ↦ (
                let active : is_active moved.copies other ≡ true = active-held moved.copies other commit old in
                let stays : is_idle issued other ≡ false = idle-issued other ∙ ap (λ (a : Bool). not (same_key key other && nat_lt 0 ttl) && (is_active h.copies other && not a)) active ∙ nothing (not (same_key key other && nat_lt 0 ttl)) (is_active h.copies other) in
                ap (nat_lt commit) (unchanged other stays) ∙ keeps.changes.exact other commit (copy-before moved.clock h.copies moved.copies other commit passes.copies old))
          ];
    };
    active = λ other there. active_kept other there;
  }
    where
      nothing : (a b : Bool) → (a && (b && false)) ≡ false
      nothing true true = refl
      nothing true false = refl
      nothing false b = refl

      or_false : (b : Bool) → (b || false) ≡ b
      or_false true = refl
      or_false false = refl

      unchanged : (other : KeyShape) → is_idle issued other ≡ false → change_of after.changes other ≡ change_of l.changes other
      unchanged other stays = ap (λ (o : Option ℕ). unwrap_or o 0) (drops.changes other ∙ ap (λ (b : Bool). if b then None else lookup (same_key other) noted.changes) stays) ∙ ap (λ (x : Lifetimes). change_of x.changes other) note

      low : (gone : Bool) (old o : Option ℕ) → o ≡ (if gone then None else old) → {n : ℕ} → unwrap_or old 0 ≡ n → n ≤ front → unwrap_or o 0 ≤ front
      low true old o is same below = (let e : unwrap_or o 0 ≡ 0 = ap (λ (x : Option ℕ). unwrap_or x 0) is in omega (arith, e))
      low false old o is same below = (let e : unwrap_or o 0 ≡ unwrap_or old 0 = ap (λ (x : Option ℕ). unwrap_or x 0) is in omega (arith, e, same, below))

      was_active : (other : KeyShape) → is_active moved.copies other ≡ true → is_active h.copies other ≡ true
      was_active other active = active-was h moved moment passes idle other active

      -- an active query has its estimate
      kept_still : (other : KeyShape) → is_query other ≡ true → is_active issued.copies other ≡ true → is_some (kept_of after.estimator.keys other) ≡ true
      kept_still other query active =
          let live : ((same_key key other && nat_lt 0 ttl) || is_active moved.copies other) ≡ true = sym (active-issued other) ∙ active in
          let stays : is_idle issued other ≡ false = idle-issued other ∙ no_idle (same_key key other && nat_lt 0 ttl) (is_active h.copies other) (is_active moved.copies other) live in
          ap is_some (drops.kept other ∙ ap (λ (b : Bool). if b then None else kept_of noted.estimator.keys other) stays ∙ kept other)
          ∙ elim (cases_Bool (same_key key other)) [
            | inl own ↦ (
                let e : key ≡ other = (same_key-Decides key other).0 own in
                let its : is_query key ≡ true = ap is_query e ∙ query in
                rw (own, its) (some_issue (nat_lt 0 ttl) (is_active moved.copies key) ∙ by_own (nat_lt 0 ttl) (is_active moved.copies key) (is_some (kept_of l.estimator.keys key))
                (λ now. keeps.kept key its (was_active key now))
                (sym (own_live (nat_lt 0 ttl) (is_active moved.copies key) (is_active moved.copies other) (same_key key other) own (ap (is_active moved.copies) e)) ∙ live)))
            | inr apart ↦ rw (apart) (keeps.kept other query (was_active other (rw (apart) at live)))
          ]
        where
          no_idle : (t a b : Bool) → (t || b) ≡ true → (not t && (a && not b)) ≡ false
          no_idle true a b h = refl
          no_idle false true true h = refl
          no_idle false false true h = refl
          no_idle false a false h = absurd (let e = h in cc)

          some_issue : (b a : Bool) → is_some (if b then Some (after_issue ttl moved.clock (kept_while a (kept_of l.estimator.keys key))) else kept_while a (kept_of l.estimator.keys key)) ≡ (b || (a && is_some (kept_of l.estimator.keys key)))
          some_issue true a = refl
          some_issue false true = refl
          some_issue false false = refl

          own_live : (t a b own : Bool) → own ≡ true → a ≡ b → ((own && t) || b) ≡ (t || a)
          own_live t a b own is same = (λ i. (is i && t) || sym same i)

          by_own : (t a k : Bool) → (a ≡ true → k ≡ true) → (t || a) ≡ true → (t || (a && k)) ≡ true
          by_own true a k have h = refl
          by_own false true k have h = have refl
          by_own false false k have h = h

      of_other : (other : KeyShape) → same_key key other ≡ false → (not (not (same_key key other && nat_lt 0 ttl) && (is_active h.copies other && not (is_active moved.copies other))) && (if same_key key other && is_query key then is_some (kept_of noted.estimator.keys key) else is_known l.estimator.keys other))
          ≡ (is_query other && ((((same_key key other && nat_lt 0 ttl) || is_active moved.copies other) || false) || false))
      of_other other apart =
          let known_is : is_known l.estimator.keys other ≡ (is_query other && ((is_active h.copies other || false) || false)) = keeps.estimates other ∙ ap₂ (λ (a b : Bool). is_query other && ((is_active h.copies other || a) || b)) (idle-none h other idle) (alone other apart) in
          rw (apart) (ap (λ (b : Bool). not (is_active h.copies other && not (is_active moved.copies other)) && b) known_is ∙ by (is_query other) (is_active h.copies other) (is_active moved.copies other) (was_active other))
        where
          by : (q a b : Bool) → (b ≡ true → a ≡ true) → (not (a && not b) && (q && ((a || false) || false))) ≡ (q && ((b || false) || false))
          by q true true w = by_q q
            where
              by_q : (q : Bool) → (true && (q && true)) ≡ (q && true)
              by_q q = refl
          by true true false w = refl
          by false true false w = refl
          by q false true w = absurd (let e = w refl in cc)
          by true false false w = refl
          by false false false w = refl

      of_own : (other : KeyShape) → same_key key other ≡ true → (not (not (same_key key other && nat_lt 0 ttl) && (is_active h.copies other && not (is_active moved.copies other))) && (if same_key key other && is_query key then is_some (kept_of noted.estimator.keys key) else is_known l.estimator.keys other))
          ≡ (is_query other && ((((same_key key other && nat_lt 0 ttl) || is_active moved.copies other) || false) || false))
      of_own other own =
          let e : key ≡ other = (same_key-Decides key other).0 own in
          subst (λ (k : KeyShape). (not (not (same_key key k && nat_lt 0 ttl) && (is_active h.copies k && not (is_active moved.copies k))) && (if same_key key k && is_query key then is_some (kept_of noted.estimator.keys key) else is_known l.estimator.keys k))
          ≡ (is_query k && ((((same_key key k && nat_lt 0 ttl) || is_active moved.copies k) || false) || false))) e
          (elim (cases_Bool (is_query key)) [
            | inl query ↦ (
                let itself : same_key key key ≡ true = (same_key-Decides key key).1 refl in
                let there : is_some (kept_of noted.estimator.keys key) ≡ (nat_lt 0 ttl || (is_active moved.copies key && is_active h.copies key)) =
                ap is_some (kept key) ∙ rw (itself, query) (some_issue (nat_lt 0 ttl) (is_active moved.copies key) ∙ ap (λ (b : Bool). nat_lt 0 ttl || b) (while_active (is_active moved.copies key) (is_active h.copies key) (is_some (kept_of l.estimator.keys key)) (was_active key) (keeps.kept key query))) in
                rw (itself, query) (ap (λ (b : Bool). not (not (true && nat_lt 0 ttl) && (is_active h.copies key && not (is_active moved.copies key))) && b) there ∙ by (nat_lt 0 ttl) (is_active h.copies key) (is_active moved.copies key) (was_active key)))
            | inr record_key ↦ (
                let known_is : is_known l.estimator.keys key ≡ false = keeps.estimates key ∙ ap (λ (b : Bool). b && ((is_active h.copies key || is_idle h key) || list_any (same_key key) h.ready)) record_key in
                rw (record_key, known_is) (none (same_key key key) (not (not (same_key key key && nat_lt 0 ttl) && (is_active h.copies key && not (is_active moved.copies key))))))
          ])
        where
          while_active : (b a k : Bool) → (b ≡ true → a ≡ true) → (a ≡ true → k ≡ true) → (b && k) ≡ (b && a)
          while_active true true k was have = have refl
          while_active true false k was have = absurd (let e = was refl in cc)
          while_active false a k was have = refl

          some_issue : (b a : Bool) → is_some (if b then Some (after_issue ttl moved.clock (kept_while a (kept_of l.estimator.keys key))) else kept_while a (kept_of l.estimator.keys key)) ≡ (b || (a && is_some (kept_of l.estimator.keys key)))
          some_issue true a = refl
          some_issue false true = refl
          some_issue false false = refl

          none : (a b : Bool) → (b && (if a && false then is_some (kept_of noted.estimator.keys key) else false)) ≡ false
          none true true = refl
          none true false = refl
          none false true = refl
          none false false = refl

          by : (t a b : Bool) → (b ≡ true → a ≡ true) → (not (not (true && t) && (a && not b)) && (t || (b && a))) ≡ (true && ((((true && t) || b) || false) || false))
          by true a b w = refl
          by false true true w = refl
          by false true false w = refl
          by false false true w = absurd (let e = w refl in cc)
          by false false false w = refl

      active_kept : (other : KeyShape) → has_change after.changes other ≡ true → (is_active new.copies other || is_idle new other) ≡ true
      active_kept other there =
          let was_there = kept_by (is_idle issued other) (lookup (same_key other) noted.changes) (lookup (same_key other) after.changes) (drops.changes other) there in
          let before : is_active h.copies other ≡ true = sym (or_false (is_active h.copies other)) ∙ ap (λ (b : Bool). is_active h.copies other || b) (sym (idle-none h other idle)) ∙ keeps.active other (ap (λ (x : Lifetimes). has_change x.changes other) (sym note) ∙ was_there.1) in
          let now : is_active issued.copies other ≡ true = active-issued other ∙ by (same_key key other && nat_lt 0 ttl) (is_active h.copies other) (is_active moved.copies other) before (sym (idle-issued other) ∙ was_there.0) in
          ap (λ (x : CopiesView). is_active x.copies other || is_idle x other) new_is ∙ ap (λ (b : Bool). b || false) now
        where
          kept_by : (gone : Bool) (old o : Option ℕ) → o ≡ (if gone then None else old) → is_some o ≡ true → (gone ≡ false) × (is_some old ≡ true)
          kept_by true old o is some = absurd (let e : is_some o ≡ false = ap is_some is in cc)
          kept_by false old o is some = (refl, ap is_some (sym is) ∙ some)

          by : (t a b : Bool) → a ≡ true → (not t && (a && not b)) ≡ false → (t || b) ≡ true
          by true a b was none = refl
          by false true true was none = refl
          by false true false was none = absurd (cc)
          by false false b was none = absurd (cc)

-- it does not depend on the copies of absent records
pub lifetimes-absents : (journal : List Change) (front : ℕ) (h : CopiesView) (l : Lifetimes) (a : Issued) → KeepsLifetimes journal front h l → KeepsLifetimes journal front h (record l { absents = a })
lifetimes-absents journal front h l a keeps = record {
  limits = keeps.limits;
  estimates = keeps.estimates;
  kept = keeps.kept;
  changes = keeps.changes;
  active = keeps.active;
}

-- ---- the lifetime of a reply

-- as many keys are active as the copies have
pub active-number : (h : CopiesView) (s : State) → HasCopies h.copies s → length (active_of s) ≡ active_keys h.copies
active-number h s is =
    length-from_keys same_key_equiv (active_of s) (map (λ (c : Copy). c.0) h.copies) (distinct-unique (map (λ (r : IssuedCopy). r.key) (live s)))
    (λ k.
    among-unique (map (λ (r : IssuedCopy). r.key) (live s)) k
    ∙ any-map (λ (r : IssuedCopy). r.key) (same_key k) (live s)
    ∙ sym (active-copies h.copies s is k)
    ∙ sym (any-map (λ (c : Copy). c.0) (same_key k) h.copies))

sum-mapped : {X : Type 0} (f : List ℕ → ℕ) (p : X → List ℕ) (xs : List X) → sum_by f (map p xs) ≡ sum_by (λ x. f (p x)) xs
sum-mapped f p [] = refl
sum-mapped f p (x ∷ xs) = sum_by-cons f (p x) (map p xs) ∙ ap (λ (n : ℕ). f (p x) + n) (sum-mapped f p xs) ∙ sym (sum_by-cons (λ y. f (p y)) x xs)

-- the estimated lifetime by what is kept is that of the state, whose clock is that of the copies
pub lifetime-at : (h : CopiesView) (e : Estimated) (s : State) (moment : ℕ) (key : KeyShape) (g : Setting) (journal : List Change) → HasCopies h.copies (at_moment s moment) → h.clock ≡ (at_moment s moment).clock → journal ≡ s.journal → e.limits ≡ limits_of g → HasWrites e.records s → HasEstimates e.keys s →
    lifetime e key (ids_at key journal) h.clock (is_active h.copies key) (active_keys h.copies) ≡ estimated_ttl g (at_moment s moment) key (length journal)
lifetime-at h e s moment (Record collection id) g journal is clock rows limits writes have =
    let t = at_moment s moment in
    let active : is_active h.copies (Record collection id) ≡ is_active_in t (Record collection id) = active-copies h.copies t is (Record collection id) in
    let number : active_keys h.copies ≡ length (active_of t) = sym (active-number h t is) in
    let clocks = writes collection id in
    (λ i. record_lifetime (limits i) (active i) (number i) (rate_at (clock i) (clocks i)))
lifetime-at h e s moment (Query kind normal) g journal is clock rows limits writes have =
    let t = at_moment s moment in
    let key : KeyShape = Query kind normal in
    let active : is_active h.copies key ≡ is_active_in t key = active-copies h.copies t is key in
    let number : active_keys h.copies ≡ length (active_of t) = sym (active-number h t is) in
    let found = window normal (docs journal (length journal) normal.collection) in
    let sums : rates_of e h.clock normal.collection (map (λ row. row.0) found) ≡ sum_by (λ row. record_rate t normal.collection row.0) (window normal (docs t.journal (length journal) normal.collection)) =
    sum-mapped (rate_of e h.clock normal.collection) (λ (row : Row). row.0) found
    ∙ ap (λ (f : Row → ℕ). sum_by f found) (λ i row. rate_at (clock i) (writes normal.collection row.0 i))
    ∙ ap (λ (xs : List Change). sum_by (λ (row : Row). record_rate t normal.collection row.0) (window normal (docs xs (length journal) normal.collection))) rows in
    (λ i. query_lifetime (limits i) (active i) (number i) (estimate_of e key) (sums i))
    ∙ by (is_active_in t key) refl
  where
    key : KeyShape
    key = Query kind normal

    t : State
    t = at_moment s moment

    by : (b : Bool) → is_active_in t key ≡ b →
        query_lifetime (limits_of g) b (length (active_of t)) (estimate_of e key) (sum_by (λ row. record_rate t normal.collection row.0) (window normal (docs t.journal (length journal) normal.collection)))
        ≡ query_lifetime (limits_of g) b (length (active_of t)) (unwrap_or (estimate t key) 0) (sum_by (λ row. record_rate t normal.collection row.0) (window normal (docs t.journal (length journal) normal.collection)))
    by true active =
        let kept : kept_of e.keys key ≡ kept_in t key = have key refl ∙ sym (kept-passed s moment key ∙ ap (λ (b : Bool). if b then kept_in s key else None) active) in
        let same : estimate_of e key ≡ unwrap_or (estimate t key) 0 = ap (λ (o : Option Kept). option_map_or (λ (x : Kept). x.estimate) o 0) kept ∙ sym (estimate-kept t key) in
        ap (λ (n : ℕ). query_lifetime (limits_of g) true (length (active_of t)) n (sum_by (λ row. record_rate t normal.collection row.0) (window normal (docs t.journal (length journal) normal.collection)))) same
    by false active = refl

-- a reply with a lifetime above 0 may issue its copy
pub may-issue : (h : CopiesView) (e : Estimated) (key : KeyShape) (ids : List (List ℕ)) (clock : ℕ) → e.limits ≡ limits_of h.setting → 0 < lifetime e key ids clock (is_active h.copies key) (active_keys h.copies) → may_issue h key ≡ true
may-issue h e key ids clock limits some = by (is_active h.copies key) (cases_lt (active_keys h.copies) h.setting.active) (refused key some)
  where
    not_zero : (b : Bool) (n : ℕ) → 0 < (if b then 0 else n) → b ≡ false
    not_zero true n above = absurd (omega (arith, above))
    not_zero false n above = refl

    -- the key would be one too many
    refused : (k : KeyShape) → 0 < lifetime e k ids clock (is_active h.copies key) (active_keys h.copies) → is_refused (limits_of h.setting) (is_active h.copies key) (active_keys h.copies) ≡ false
    refused (Record collection id) above = ap (λ (g : Limits). is_refused g (is_active h.copies key) (active_keys h.copies)) (sym limits) ∙ not_zero (is_refused e.limits (is_active h.copies key) (active_keys h.copies)) _ above
    refused (Query kind normal) above = ap (λ (g : Limits). is_refused g (is_active h.copies key) (active_keys h.copies)) (sym limits) ∙ not_zero (is_refused e.limits (is_active h.copies key) (active_keys h.copies)) _ above

    by : (a : Bool) → (active_keys h.copies < h.setting.active) ⊎ (h.setting.active ≤ active_keys h.copies) → (not a && nat_le h.setting.active (active_keys h.copies)) ≡ false → (a || nat_lt (active_keys h.copies) h.setting.active) ≡ true
    by true room none = refl
    by false (inl below) none = lt-ltb (active_keys h.copies) h.setting.active below
    by false (inr full) none = absurd (let e = le-leb h.setting.active (active_keys h.copies) full in cc)

-- ---- the beginning

pub lifetimes-none : (journal : List Change) (h : CopiesView) (l : Lifetimes) → h.copies ≡ [] → h.idle ≡ [] → h.ready ≡ [] → l.estimator ≡ none_noted (limits_of h.setting) → l.changes ≡ [] → KeepsLifetimes journal 0 h l
lifetimes-none journal h l copies idle ready estimator changes = record {
  limits = ap (λ (e : Estimated). e.limits) estimator;
  estimates = λ key. ap (λ (e : Estimated). is_known e.keys key) estimator ∙ sym ((λ i. is_query key && ((is_active (copies i) key || list_any (same_key key) (idle i)) || list_any (same_key key) (ready i))) ∙ never (is_query key));
  kept = λ key query active. absurd (let e : is_active h.copies key ≡ false = ap (λ (xs : List Copy). is_active xs key) copies in cc);
  changes = record {
    within = λ key. (let e : change_of l.changes key ≡ 0 = ap (λ (xs : Changes). change_of xs key) changes in omega (arith, e));
    exact = λ key commit there. absurd (let e : has_copy h.copies key commit ≡ false = ap (λ (xs : List Copy). has_copy xs key commit) copies in cc);
  };
  active = λ key there. absurd (let e : has_change l.changes key ≡ false = ap (λ (xs : Changes). has_change xs key) changes in cc);
}
  where
    never : (b : Bool) → (b && ((false || false) || false)) ≡ false
    never true = refl
    never false = refl

-- ---- memory for a copy

-- a copy of a key can be issued without memory, and a query's key has an entry for its estimate
pub lifetimes-reserved : (journal : List Change) (front : ℕ) (h new : CopiesView) (l : Lifetimes) (estimator : Estimated) (key : KeyShape) → KeepsLifetimes journal front h l → new ≡ record h { ready = new.ready } → h.ready ≡ [] → IsTrue (list_any (same_key key) new.ready) →
    ((other : KeyShape) → same_key key other ≡ false → list_any (same_key other) new.ready ≡ false) → estimator ≡ record l.estimator { keys = estimator.keys } → ((other : KeyShape) → kept_of estimator.keys other ≡ kept_of l.estimator.keys other) →
    (is_query key ≡ true → IsTrue (is_known estimator.keys key)) → ((other : KeyShape) → (is_query key && same_key key other) ≡ false → is_known estimator.keys other ≡ is_known l.estimator.keys other) → KeepsLifetimes journal front new (record l { estimator = estimator })
lifetimes-reserved journal front h new l estimator key keeps new_is ready own alone estimator_is kept known others =
    subst (λ (x : CopiesView). KeepsLifetimes journal front x (record l { estimator = estimator })) (sym new_is)
    (record {
      limits = ap (λ (e : Estimated). e.limits) estimator_is ∙ keeps.limits;
      estimates = λ other. elim (cases_Bool (is_query key && same_key key other)) [
        | inl same ↦ (
            let parts = and_parts (is_query key) (same_key key other) same in
            let e : key ≡ other = (same_key-Decides key other).0 parts.1 in
            subst (λ (k : KeyShape). is_known estimator.keys k ≡ (is_query k && ((is_active h.copies k || is_idle h k) || list_any (same_key k) new.ready))) e
            (known parts.0 ∙ sym (let q = parts.0 in (λ i. q i && ((is_active h.copies key || is_idle h key) || own i)) ∙ all (is_active h.copies key || is_idle h key))))
        | inr apart ↦ (
            others other apart ∙ keeps.estimates other
            ∙ ap (λ (xs : List KeyShape). is_query other && ((is_active h.copies other || is_idle h other) || list_any (same_key other) xs)) ready
            ∙ by other apart (cases_Bool (same_key key other)))
      ];
      kept = λ other query active. ap is_some (kept other) ∙ keeps.kept other query active;
      changes = keeps.changes;
      active = keeps.active;
    })
  where
    all : (b : Bool) → (true && (b || true)) ≡ true
    all true = refl
    all false = refl

    no_query : (q s : Bool) → s ≡ true → (q && s) ≡ false → q ≡ false
    no_query true true is none = none
    no_query true false is none = absurd (let e = is in cc)
    no_query false s is none = refl

    by : (other : KeyShape) → (is_query key && same_key key other) ≡ false → (same_key key other ≡ true) ⊎ (same_key key other ≡ false) → (is_query other && ((is_active h.copies other || is_idle h other) || false)) ≡ (is_query other && ((is_active h.copies other || is_idle h other) || list_any (same_key other) new.ready))
    by other apart (inl same) = (
        let e : key ≡ other = (same_key-Decides key other).0 same in
        let no : is_query other ≡ false = ap is_query (sym e) ∙ no_query (is_query key) (same_key key other) same apart in
        rw (no) refl)
    by other apart (inr differ) = ap (λ (b : Bool). is_query other && ((is_active h.copies other || is_idle h other) || b)) (sym (alone other differ))
