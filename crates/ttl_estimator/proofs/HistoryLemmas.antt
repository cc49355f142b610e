-- What the calls of one history leave.
use Rattle.std.proofs.Common.{◌≡◌, ℕ, ◌+◌, ◌-◌, ◌≤◌, Bool, true, false, not, ◌&&◌, ◌||◌, ltb, List, [], ◌∷◌, ◌++◌, Option, Some, None, option_map, sum_by, cond, refl, sym, ap, ap₂, ◌∙◌, subst, arith, inl, inr}
use Rattle.std.specs.List.{filter, list_any}
use Rattle.std.specs.Option.{option_map_or}
use Rattle.std.proofs.lemmas.Bool.{cases_Bool, lt-ltb, ltb-true}
use Rattle.std.proofs.lemmas.List.Folds.{list_any-append}
use Rattle.std.proofs.lemmas.List.Sums.{sum_by-cons}
use Rattle.query_normal.specs.declared.key.KeyShape.{KeyShape}
use Rattle.query_normal.specs.declared.key.KeyShape.TheVariants.{Record, Query}
use Rattle.query_normal.specs.Keys.{same_key}
use Rattle.query_normal.specs.SameKey.{same_key-Decides}
use Rattle.ttl_estimator.specs.declared.limits.Limits.{Limits}
use Rattle.ttl_estimator.specs.declared.estimates.Kept.{Kept}
use Rattle.ttl_estimator.specs.Calls.{Call, write, issue, purge, idle, room, EndsAs, estimate_after}
use Rattle.ttl_estimator.specs.Estimates.{after_issue, after_purge, kept_of, mean_of}
use Rattle.ttl_estimator.specs.Estimator.{Estimated, estimate_of, lifetime, rate_of}
use Rattle.ttl_estimator.specs.Lifetime.{query_lifetime, record_lifetime}
use Rattle.ttl_estimator.specs.History.{Entry, wrote, answered, matched, passed, AreCallsOf, IsQueryKey, active_count_at, calls_for, clock_after, clocks_in, copies_in, estimate_in, is_active_at, is_copy_at, is_for, is_issue, is_purge, kept_in, last_issue, lifetime_in, own_copy, ttl_of, went_idle}
use Rattle.ttl_estimator.specs.Rates.{last_eight, rate_at}
use Rattle.ttl_estimator.proofs.CallLemmas.{estimates_end, limits_end, rates_end}

-- ---- calls for one key

-- what is kept of a key depends on the calls for it alone
own_calls : (g : Limits) (calls : List Call) (key : KeyShape) → estimate_after g (filter (is_for key) calls) key ≡ estimate_after g calls key
own_calls g [] key = refl
own_calls g (write collection id clock ∷ calls) key = own_calls g calls key
own_calls g (room ∷ calls) key = own_calls g calls key
own_calls g (issue other ttl clock ∷ calls) key =
    elim (cases_Bool (same_key other key)) [
      | inl hit ↦ (
          let is : other ≡ key = (same_key-Decides other key).0 hit in
          subst (λ (k : KeyShape). estimate_after g (filter (is_for key) (issue k ttl clock ∷ calls)) key ≡ estimate_after g (issue k ttl clock ∷ calls) key) (sym is)
          (let own : same_key key key ≡ true = (same_key-Decides key key).1 refl in
          rw (own, own) (ap (λ (o : Option Kept). Some (after_issue ttl clock o)) (own_calls g calls key))))
      | inr miss ↦ rw (miss) (own_calls g calls key)
    ]
own_calls g (purge other clock ∷ calls) key =
    elim (cases_Bool (same_key other key)) [
      | inl hit ↦ (
          let is : other ≡ key = (same_key-Decides other key).0 hit in
          subst (λ (k : KeyShape). estimate_after g (filter (is_for key) (purge k clock ∷ calls)) key ≡ estimate_after g (purge k clock ∷ calls) key) (sym is)
          (let own : same_key key key ≡ true = (same_key-Decides key key).1 refl in
          rw (own, own) (ap (λ (o : Option Kept). option_map (after_purge g clock) o) (own_calls g calls key))))
      | inr miss ↦ rw (miss) (own_calls g calls key)
    ]
own_calls g (idle other ∷ calls) key =
    elim (cases_Bool (same_key other key)) [
      | inl hit ↦ rw (hit) (rw (hit) refl)
      | inr miss ↦ rw (miss) (own_calls g calls key)
    ]

-- ---- copies and clocks

-- a copy that is unexpired is so at an earlier clock
was_active : (key : KeyShape) (earlier later : ℕ) (copies : List (KeyShape × ℕ)) → earlier ≤ later → list_any (is_copy_at later key) copies ≡ true → list_any (is_copy_at earlier key) copies ≡ true
was_active key earlier later [] order active = active
was_active key earlier later (copy ∷ copies) order active =
    parts (same_key key copy.0) (ltb later copy.1) (ltb earlier copy.1) (list_any (is_copy_at later key) copies) (list_any (is_copy_at earlier key) copies)
    (λ h. lt-ltb earlier copy.1 (omega (arith, order, ltb-true later copy.1 h))) (was_active key earlier later copies order) active
  where
    parts : (own late early rest others : Bool) → (late ≡ true → early ≡ true) → (rest ≡ true → others ≡ true) → (own && late || rest) ≡ true → (own && early || others) ≡ true
    parts true true early rest others own more h = ap (λ (b : Bool). b || others) (own refl)
    parts true false true rest others own more h = refl
    parts true false false rest others own more h = more h
    parts false late early rest others own more h = more h

-- a key is active after an entry where the entry issued a copy of it, or an earlier copy is unexpired
active_next : (e : Entry) (h : List Entry) (key : KeyShape) → is_active_at (clock_after (e ∷ h)) (e ∷ h) key ≡ (is_issue e key || is_active_at (clock_after (e ∷ h)) h key)
active_next e h key =
    list_any-append (is_copy_at (clock_after (e ∷ h)) key) (own_copy e (clock_after (e ∷ h))) (copies_in h)
    ∙ ap (λ (b : Bool). b || is_active_at (clock_after (e ∷ h)) h key) (own e (clock_after (e ∷ h)))
  where
    issued : (same some : Bool) (other : KeyShape) (clock ttl : ℕ) → same_key key other ≡ same → ltb 0 ttl ≡ some → list_any (is_copy_at clock key) (cond some ((other, clock + ttl) ∷ []) []) ≡ (same && some)
    issued true true other clock ttl is more = (let late : ltb clock (clock + ttl) ≡ true = lt-ltb clock (clock + ttl) (omega (arith, ltb-true 0 ttl more)) in rw (is, late) refl)
    issued false true other clock ttl is more = rw is refl
    issued true false other clock ttl is more = refl
    issued false false other clock ttl is more = refl

    own : (e : Entry) (clock : ℕ) → list_any (is_copy_at clock key) (own_copy e clock) ≡ is_issue e key
    own (answered other ttl moment) clock = issued (same_key key other) (ltb 0 ttl) other clock ttl refl refl
    own (wrote collection id moment) clock = refl
    own (matched keys moment) clock = refl
    own (passed moment) clock = refl

-- ---- what is kept

-- a key that went idle has nothing
after_idle : (g : Limits) (key : KeyShape) (calls : List Call) (kept : Kept) (was still : Bool) → (still ≡ true → was ≡ true) → estimate_after g calls key ≡ cond was (Some kept) None →
    estimate_after g (cond (was && not still) (idle key ∷ []) [] ++ calls) key ≡ cond still (Some kept) None
after_idle g key calls kept true true stays is = is
after_idle g key calls kept true false stays is = (let own : same_key key key ≡ true = (same_key-Decides key key).1 refl in rw own refl)
after_idle g key calls kept false true stays is = (let h = stays refl in absurd (cc))
after_idle g key calls kept false false stays is = is

-- what an entry's own call leaves
after_own : (g : Limits) (key : KeyShape) (calls : List Call) (estimate issued ttl clock : ℕ) (issues purges still : Bool) → estimate_after g calls key ≡ cond still (Some (record { estimate = estimate; issued = issued })) None →
    estimate_after g (cond issues (issue key ttl clock ∷ []) (cond purges (purge key clock ∷ []) []) ++ calls) key
    ≡ cond (issues || still) (Some (record { estimate = cond issues (cond still estimate ttl) (cond purges (mean_of g estimate (clock - issued)) estimate); issued = cond issues clock issued })) None
after_own g key calls estimate issued ttl clock true purges true is =
    (let own : same_key key key ≡ true = (same_key-Decides key key).1 refl in rw (own) (ap (λ (o : Option Kept). Some (after_issue ttl clock o)) is))
after_own g key calls estimate issued ttl clock true purges false is =
    (let own : same_key key key ≡ true = (same_key-Decides key key).1 refl in rw (own) (ap (λ (o : Option Kept). Some (after_issue ttl clock o)) is))
after_own g key calls estimate issued ttl clock false true true is =
    (let own : same_key key key ≡ true = (same_key-Decides key key).1 refl in rw (own) (ap (λ (o : Option Kept). option_map (after_purge g clock) o) is))
after_own g key calls estimate issued ttl clock false true false is =
    (let own : same_key key key ≡ true = (same_key-Decides key key).1 refl in rw (own) (ap (λ (o : Option Kept). option_map (after_purge g clock) o) is))
after_own g key calls estimate issued ttl clock false false still is = is

-- the clock only grows
grows : (e : Entry) (h : List Entry) → clock_after h ≤ clock_after (e ∷ h)
grows e h = omega arith

-- the calls that a history asks for leave what is kept in it
kept_after : (g : Limits) (h : List Entry) (key : KeyShape) → estimate_after g (calls_for h key) key ≡ kept_in g h key
kept_after g [] key = refl
kept_after g (e ∷ h) key =
    let clock = clock_after (e ∷ h) in
    let was = is_active_at (clock_after h) h key in
    let still = is_active_at clock h key in
    let kept : Kept = record { estimate = estimate_in g h key; issued = last_issue h key } in
    let idled = after_idle g key (calls_for h key) kept was still (was_active key (clock_after h) clock (copies_in h) (grows e h)) (kept_after g h key) in
    after_own g key (cond (went_idle e h key) (idle key ∷ []) [] ++ calls_for h key) kept.estimate kept.issued (ttl_of e) clock (is_issue e key) (is_purge e key) still idled
    ∙ ap (λ (b : Bool). cond b (Some (record { estimate = estimate_in g (e ∷ h) key; issued = last_issue (e ∷ h) key })) None) (sym (active_next e h key))

-- so do the calls of a history, for each key of a query
pub kept_by_history : (g : Limits) (h : List Entry) (calls : List Call) (after : Estimated) (key : KeyShape) → IsQueryKey key → EndsAs g calls after → AreCallsOf h calls → kept_of after.keys key ≡ kept_in g h key
kept_by_history g h calls after key query ends of =
    estimates_end g calls after key ends
    ∙ sym (own_calls g calls key)
    ∙ ap (λ (cs : List Call). estimate_after g cs key) (of.keys key query)
    ∙ kept_after g h key

-- and the rates are those of the writes in it
rate_by_history : (g : Limits) (h : List Entry) (calls : List Call) (after : Estimated) (now : ℕ) (collection id : List ℕ) → EndsAs g calls after → AreCallsOf h calls → rate_of after now collection id ≡ rate_at now (last_eight (clocks_in h collection id))
rate_by_history g h calls after now collection id ends of =
    rates_end g calls after now collection id ends ∙ ap (λ (cs : List ℕ). rate_at now (last_eight cs)) (of.writes collection id)

sum_alike : (f f' : List ℕ → ℕ) → ((id : List ℕ) → f id ≡ f' id) → (ids : List (List ℕ)) → sum_by f ids ≡ sum_by f' ids
sum_alike f f' same [] = refl
sum_alike f f' same (id ∷ ids) = sum_by-cons f id ids ∙ ap₂ (λ (a b : ℕ). a + b) (same id) (sum_alike f f' same ids) ∙ sym (sum_by-cons f' id ids)

-- ---- lifetimes

-- the estimate counts only while the key is active
query_alike : (g : Limits) (active : Bool) (count estimate other rates : ℕ) → (active ≡ true → estimate ≡ other) → query_lifetime g active count estimate rates ≡ query_lifetime g active count other rates
query_alike g true count estimate other rates same = ap (λ (n : ℕ). query_lifetime g true count n rates) (same refl)
query_alike g false count estimate other rates same = refl

pub lifetime_by_history : (g : Limits) (h : List Entry) (calls : List Call) (after : Estimated) (key : KeyShape) (ids : List (List ℕ)) (clock : ℕ) → EndsAs g calls after → AreCallsOf h calls → clock_after h ≤ clock →
    lifetime after key ids clock (is_active_at clock h key) (active_count_at clock h) ≡ lifetime_in g h key ids clock
lifetime_by_history g h calls after (Record collection id) ids clock ends of order =
    ap₂ (λ (l : Limits) (rate : ℕ). record_lifetime l (is_active_at clock h (Record collection id)) (active_count_at clock h) rate) (limits_end g calls after ends) (rate_by_history g h calls after clock collection id ends of)
lifetime_by_history g h calls after (Query kind normal) ids clock ends of order =
    let key = Query kind normal in
    let active = is_active_at clock h key in
    let count = active_count_at clock h in
    let rates = sum_alike (rate_of after clock normal.collection) (λ id. rate_at clock (last_eight (clocks_in h normal.collection id))) (λ id. rate_by_history g h calls after clock normal.collection id ends of) ids in
    ap₂ (λ (l : Limits) (n : ℕ). query_lifetime l active count (estimate_of after key) n) (limits_end g calls after ends) rates
    ∙ query_alike g active count (estimate_of after key) (estimate_in g h key) _
    (λ is. ap (λ (o : Option Kept). option_map_or (λ kept. kept.estimate) o 0)
    (kept_by_history g h calls after key tt ends of
    ∙ ap (λ (b : Bool). cond b (Some (record { estimate = estimate_in g h key; issued = last_issue h key })) None) (was_active key (clock_after h) clock (copies_in h) order is)))
