-- What each step leaves of the estimates, and of the clocks of writes.
use Rattle.std.proofs.Common.{◌≡◌, ℕ, ◌+◌, max, Bool, true, false, cond, not, ◌&&◌, ◌||◌, List, [], ◌∷◌, ◌++◌, map, filter, fold, bytes_eq, Option, Some, None, option_map, unwrap_or, refl, sym, ap, ◌∙◌, subst, arith, inl, inr}
use Rattle.std.specs.Prelude.{nat_lt, if◌then◌else◌}
use Rattle.std.specs.List.{list_any}
use Rattle.std.specs.Map.{lookup}
use Rattle.std.specs.Option.{option_map_or}
use Rattle.std.proofs.lemmas.Bool.{cases_Bool, both_ways, lt-ltb, ltb-true}
use Rattle.std.proofs.lemmas.List.{map-append}
use Rattle.std.proofs.lemmas.List.Elements.{filter-append}
use Rattle.std.proofs.lemmas.List.Sums.{fold-append}
use Rattle.query_normal.specs.declared.key.KeyShape.{KeyShape}
use Rattle.query_normal.specs.Keys.{same_key}
use Rattle.query_normal.specs.SameKey.{same_key-Decides}
use Rattle.commit_book.specs.declared.change.Change.{Change}
use Rattle.ttl_estimator.specs.declared.estimates.Kept.{Kept}
use Rattle.ttl_estimator.specs.Estimates.{after_issue, after_purge}
use Rattle.hub_model.specs.Copies.{issues, is_active, is_live, live}
use Rattle.hub_model.specs.Kept.{kept_if, kept_in, newest_estimate}
use Rattle.hub_model.specs.Lifetime.{limits_of, write_clocks, estimate, last_issue, estimate_after, ttl_of}
use Rattle.hub_model.specs.Purge.{is_purged, purged_keys}
use Rattle.hub_model.specs.Setting.{Setting}
use Rattle.hub_model.specs.State.{IssuedCopy, State, WriteClock, at_moment}
use Rattle.hub_model.specs.Step.{with_change, copy_of_read, has_read, has_matched}
use Rattle.hub_model.proofs.Issues.{kept-some, live-read}
use Rattle.hub_model.proofs.KeySets.{same_key-flips}
use Rattle.hub_model.proofs.Purged.{among-purged, purged-active}

-- ---- the clocks of writes

-- an accepted change adds its clock to those of its record, and to no others
pub clocks-write : (s : State) (change : Change) (collection id : List ℕ) → write_clocks (with_change change s) collection id ≡ write_clocks s collection id ++ (if bytes_eq change.collection collection && bytes_eq change.id id then s.clock ∷ [] else [])
clocks-write s change collection id =
    ap (map (λ (w : WriteClock). w.clock)) (filter-append (λ (w : WriteClock). bytes_eq w.collection collection && bytes_eq w.id id) s.writes (record { collection = change.collection; id = change.id; clock = s.clock } ∷ []))
    ∙ map-append (λ (w : WriteClock). w.clock) (filter (λ (w : WriteClock). bytes_eq w.collection collection && bytes_eq w.id id) s.writes) (cond (bytes_eq change.collection collection && bytes_eq change.id id) (record { collection = change.collection; id = change.id; clock = s.clock } ∷ []) [])
    ∙ ap (λ (l : List ℕ). write_clocks s collection id ++ l) (one (bytes_eq change.collection collection && bytes_eq change.id id))
  where
    one : (b : Bool) → map (λ (w : WriteClock). w.clock) (cond b (record { collection = change.collection; id = change.id; clock = s.clock } ∷ []) []) ≡ (if b then s.clock ∷ [] else [])
    one true = refl
    one false = refl

-- ---- lists

any-append : {X : Type 0} (p : X → Bool) (xs ys : List X) → list_any p (xs ++ ys) ≡ (list_any p xs || list_any p ys)
any-append p [] ys = refl
any-append p (x ∷ xs) ys = by (p x) (any-append p xs ys)
  where
    by : (b : Bool) → list_any p (xs ++ ys) ≡ (list_any p xs || list_any p ys) → (b || list_any p (xs ++ ys)) ≡ ((b || list_any p xs) || list_any p ys)
    by true h = refl
    by false h = h

any-less : {X : Type 0} (p q : X → Bool) (xs : List X) → list_any p (filter q xs) ≡ true → list_any p xs ≡ true
any-less p q [] h = h
any-less p q (x ∷ xs) h = elim (cases_Bool (p x)) [
  | inl e ↦ rw (e) refl
  | inr e ↦ rw (e) (any-less p q xs (dropped (q x) e h))
]
  where
    dropped : (a : Bool) → p x ≡ false → list_any p (cond a (x ∷ filter q xs) (filter q xs)) ≡ true → list_any p (filter q xs) ≡ true
    dropped true e h = rw (e) at h
    dropped false e h = h

-- ---- a step of the clock

filter-twice : {X : Type 0} (p q : X → Bool) (xs : List X) → ((x : X) → p x ≡ true → q x ≡ true) → filter p (filter q xs) ≡ filter p xs
filter-twice p q [] h = refl
filter-twice p q (x ∷ xs) h = by (q x) (p x) refl refl (filter-twice p q xs h)
  where
    by : (a b : Bool) → q x ≡ a → p x ≡ b → filter p (filter q xs) ≡ filter p xs → filter p (cond a (x ∷ filter q xs) (filter q xs)) ≡ cond b (x ∷ filter p xs) (filter p xs)
    by true true a b rest = rw (b) (ap (λ l. x ∷ l) rest)
    by true false a b rest = rw (b) rest
    by false true a b rest = absurd (let t = h x b in both_ways (q x) a t)
    by false false a b rest = rest

-- the copies that are unexpired later were so before
live-later : (s : State) (moment : ℕ) → live (at_moment s moment) ≡ filter (is_live (max s.clock moment)) (live s)
live-later s moment = sym (filter-twice (is_live (max s.clock moment)) (is_live s.clock) (issues s) (λ r h. lt-ltb s.clock (r.clock + r.ttl) (let later = ltb-true (max s.clock moment) (r.clock + r.ttl) h in omega (arith, later))))

pub active-before : (s : State) (moment : ℕ) (key : KeyShape) → is_active (at_moment s moment) key ≡ true → is_active s key ≡ true
active-before s moment key h =
    any-less (λ (r : IssuedCopy). same_key key r.key) (is_live (max s.clock moment)) (live s) (ap (list_any (λ (r : IssuedCopy). same_key key r.key)) (sym (live-later s moment)) ∙ h)

-- what is kept of a key stays while it is active
pub kept-passed : (s : State) (moment : ℕ) (key : KeyShape) → kept_in (at_moment s moment) key ≡ (if is_active (at_moment s moment) key then kept_in s key else None)
kept-passed s moment key = by (is_active (at_moment s moment) key) (is_active s key) (active-before s moment key)
  where
    by : (a b : Bool) → (a ≡ true → b ≡ true) → (kept_if a (newest_estimate s key) (last_issue s key)) ≡ (if a then (kept_if b (newest_estimate s key) (last_issue s key)) else None)
    by true true h = refl
    by true false h = absurd (let e = h refl in cc)
    by false b h = refl

-- ---- a read

-- of one read
module _ (g : Setting) (s : State) (key : KeyShape) (at : ℕ) where
  abbrev ttl : ℕ
  ttl = ttl_of g s key at

  abbrev copy : IssuedCopy
  copy = copy_of_read g s key at

  active-read : (other : KeyShape) → is_active (has_read g key at s) other ≡ (is_active s other || (same_key other key && nat_lt 0 ttl))
  active-read other =
      ap (list_any (λ (r : IssuedCopy). same_key other r.key)) (live-read g s key at)
      ∙ any-append (λ (r : IssuedCopy). same_key other r.key) (live s) (if nat_lt 0 ttl then copy ∷ [] else [])
      ∙ ap (λ (b : Bool). is_active s other || b) (one (nat_lt 0 ttl) (same_key other key) refl)
    where
      one : (a b : Bool) → same_key other key ≡ b → list_any (λ (r : IssuedCopy). same_key other r.key) (if a then copy ∷ [] else []) ≡ (b && a)
      one true true is = rw (is) refl
      one true false is = rw (is) refl
      one false true is = refl
      one false false is = refl

  issues-read : issues (has_read g key at s) ≡ issues s ++ (if nat_lt 0 ttl then copy ∷ [] else [])
  issues-read =
      filter-append (λ (r : IssuedCopy). nat_lt 0 r.ttl) s.copies (copy ∷ [])
      ∙ ap (λ (b : Bool). issues s ++ cond b (copy ∷ []) []) (kept-some g ttl)

  last_issue-read : (other : KeyShape) → last_issue (has_read g key at s) other ≡ (if nat_lt 0 ttl && same_key other key then s.clock else last_issue s other)
  last_issue-read other =
      ap (fold (λ (clock : ℕ) (r : IssuedCopy). if same_key other r.key then r.clock else clock) 0) issues-read
      ∙ fold-append (λ (clock : ℕ) (r : IssuedCopy). if same_key other r.key then r.clock else clock) 0 (issues s) (if nat_lt 0 ttl then copy ∷ [] else [])
      ∙ one (nat_lt 0 ttl)
    where
      one : (a : Bool) → fold (λ (clock : ℕ) (r : IssuedCopy). if same_key other r.key then r.clock else clock) (last_issue s other) (if a then copy ∷ [] else []) ≡ (if a && same_key other key then s.clock else last_issue s other)
      one true = refl
      one false = refl

  newest-read : (other : KeyShape) → newest_estimate (has_read g key at s) other ≡ (if (nat_lt 0 ttl && not (is_active s key)) && same_key other key then ttl else newest_estimate s other)
  newest-read other = by (nat_lt 0 ttl && not (is_active s key)) (same_key other key) refl
    where
      by : (a b : Bool) → same_key other key ≡ b → unwrap_or (lookup (same_key other) (if a then (key, ttl) ∷ s.estimates else s.estimates)) 0 ≡ (if a && b then ttl else newest_estimate s other)
      by true true is = rw (is) refl
      by true false is = rw (is) refl
      by false b is = refl

  -- the key that was read has what an issue leaves, if its reply may be kept, and other keys have what they had
  pub kept-read : (other : KeyShape) → kept_in (has_read g key at s) other ≡ (if same_key key other && nat_lt 0 ttl then Some (after_issue ttl s.clock (kept_in s key)) else kept_in s other)
  kept-read other = elim (cases_Bool (same_key key other)) [
    | inl own ↦ (
        let is : key ≡ other = (same_key-Decides key other).0 own in
        subst (λ (k : KeyShape). kept_in (has_read g key at s) k ≡ (if same_key key k && nat_lt 0 ttl then Some (after_issue ttl s.clock (kept_in s key)) else kept_in s k)) is itself)
    | inr apart ↦ (
        let back : same_key other key ≡ false = same_key-flips other key ∙ apart in
        made (active-read other) (newest-read other) (last_issue-read other) back ∙ sym (ap (λ (b : Bool). if b && nat_lt 0 ttl then Some (after_issue ttl s.clock (kept_in s key)) else kept_in s other) apart))
  ]
    where
      -- another key
      made : is_active (has_read g key at s) other ≡ (is_active s other || (same_key other key && nat_lt 0 ttl))
          → newest_estimate (has_read g key at s) other ≡ (if (nat_lt 0 ttl && not (is_active s key)) && same_key other key then ttl else newest_estimate s other)
          → last_issue (has_read g key at s) other ≡ (if nat_lt 0 ttl && same_key other key then s.clock else last_issue s other)
          → same_key other key ≡ false → kept_in (has_read g key at s) other ≡ kept_in s other
      made active newest last back =
          let a : is_active (has_read g key at s) other ≡ is_active s other = active ∙ (rw (back) (or_false (is_active s other))) in
          let n : newest_estimate (has_read g key at s) other ≡ newest_estimate s other = newest ∙ rw (back) (dropped (nat_lt 0 ttl && not (is_active s key)) ttl (newest_estimate s other)) in
          let l : last_issue (has_read g key at s) other ≡ last_issue s other = last ∙ rw (back) (dropped (nat_lt 0 ttl) s.clock (last_issue s other)) in
          (λ i. kept_if (a i) (n i) (l i))
        where
          or_false : (b : Bool) → (b || false) ≡ b
          or_false true = refl
          or_false false = refl

          dropped : (b : Bool) (x y : ℕ) → (if b && false then x else y) ≡ y
          dropped true x y = refl
          dropped false x y = refl

      -- the key itself
      itself : kept_in (has_read g key at s) key ≡ (if same_key key key && nat_lt 0 ttl then Some (after_issue ttl s.clock (kept_in s key)) else kept_in s key)
      itself =
          let own : same_key key key ≡ true = (same_key-Decides key key).1 refl in
          let a = active-read key in
          let n = newest-read key in
          let l = last_issue-read key in
          (λ i. kept_if (a i) (n i) (l i)) ∙ rw (own) (by (nat_lt 0 ttl) (is_active s key))
        where
          by : (some active : Bool) → kept_if (active || (true && some)) (if (some && not active) && true then ttl else newest_estimate s key) (if some && true then s.clock else last_issue s key)
              ≡ (if true && some then Some (after_issue ttl s.clock (kept_if active (newest_estimate s key) (last_issue s key))) else (kept_if active (newest_estimate s key) (last_issue s key)))
          by true true = refl
          by true false = refl
          by false true = refl
          by false false = refl

-- ---- a match

-- the new estimates come before the others
looked-up : (keys : List KeyShape) (f : KeyShape → ℕ) (es : List (KeyShape × ℕ)) (key : KeyShape) → lookup (same_key key) (map (λ k. (k, f k)) keys ++ es) ≡ (if list_any (same_key key) keys then Some (f key) else lookup (same_key key) es)
looked-up [] f es key = refl
looked-up (k ∷ ks) f es key = elim (cases_Bool (same_key key k)) [
  | inl own ↦ (let is : key ≡ k = (same_key-Decides key k).0 own in rw (own) (ap (λ (x : KeyShape). Some (f x)) (sym is)))
  | inr apart ↦ rw (apart) (looked-up ks f es key)
]

-- a purged key has what a purge leaves, and other keys have what they had
pub kept-matched : (g : Setting) (s : State) (to : ℕ) (key : KeyShape) → kept_in (has_matched g to s) key ≡ (if is_purged s to key then option_map (after_purge (limits_of g) s.clock) (kept_in s key) else kept_in s key)
kept-matched g s to key =
    let newest : newest_estimate (has_matched g to s) key ≡ (if is_purged s to key then estimate_after g s key else newest_estimate s key) =
    ap (λ (o : Option ℕ). unwrap_or o 0) (looked-up (purged_keys s to) (estimate_after g s) s.estimates key)
    ∙ ap (λ (b : Bool). unwrap_or (if b then Some (estimate_after g s key) else lookup (same_key key) s.estimates) 0) (among-purged s to key)
    ∙ chosen (is_purged s to key) in
    (λ i. kept_if (is_active s key) (newest i) (last_issue s key))
    ∙ by (is_purged s to key) (is_active s key) (purged-active s to key) refl
  where
    chosen : (b : Bool) → unwrap_or (if b then Some (estimate_after g s key) else lookup (same_key key) s.estimates) 0 ≡ (if b then estimate_after g s key else newest_estimate s key)
    chosen true = refl
    chosen false = refl

    by : (p a : Bool) → (p ≡ true → a ≡ true) → is_active s key ≡ a → kept_if a (if p then estimate_after g s key else newest_estimate s key) (last_issue s key)
        ≡ (if p then option_map (after_purge (limits_of g) s.clock) (kept_if a (newest_estimate s key) (last_issue s key)) else (kept_if a (newest_estimate s key) (last_issue s key)))
    by true true h is = rw (is) refl
    by true false h is = absurd (let e = h refl in cc)
    by false a h is = refl

-- ---- the lifetime of an active key

-- the estimate that the lifetime of an active query is
pub estimate-kept : (s : State) (key : KeyShape) → unwrap_or (estimate s key) 0 ≡ option_map_or (λ (kept : Kept). kept.estimate) (kept_in s key) 0
estimate-kept s key = by (is_active s key)
  where
    by : (a : Bool) → unwrap_or (if a then lookup (same_key key) s.estimates else None) 0 ≡ option_map_or (λ (kept : Kept). kept.estimate) (kept_if a (newest_estimate s key) (last_issue s key)) 0
    by true = refl
    by false = refl
