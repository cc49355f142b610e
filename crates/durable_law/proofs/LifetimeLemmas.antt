-- For how long the copies of a history may be kept.
use Rattle.std.proofs.Common.{◌≡◌, ℕ, zero, suc, ◌<◌, ◌≤◌, max, min, Bool, true, false, List, [], ◌∷◌, All, Option, Some, None, sym, ap, subst, arith}
use Rattle.std.specs.Prelude.{nat_lt, if◌then◌else◌, unwrap_or}
use Rattle.std.specs.Map.{lookup}
use Rattle.std.proofs.lemmas.Bool.{lt-ltb}
use Rattle.std.proofs.lemmas.List.Elements.{All-nil, All-cons, All-head, All-tail, All-append, All-push, All-map}
use Rattle.query_normal.specs.declared.key.KeyShape.{KeyShape}
use Rattle.query_normal.specs.declared.key.KeyShape.TheVariants.{Record, Query}
use Rattle.query_normal.specs.Keys.{same_key}
use Rattle.ttl_estimator.specs.Lifetime.{within}
use Rattle.hub_model.specs.declared.entry.Entry.{Entry}
use Rattle.hub_model.specs.declared.entry.Entry.TheVariants.{Write, Read, Match, Horizon}
use Rattle.hub_model.specs.Lifetime.{limits_of, estimate, estimated_ttl, estimate_after, absent_ttl, ttl_of, kept_for}
use Rattle.hub_model.specs.Purge.{purged_keys}
use Rattle.hub_model.specs.Setting.{Setting}
use Rattle.hub_model.specs.State.{IssuedCopy, State, start, at_moment}
use Rattle.hub_model.specs.Step.{after, after_all, copy_of_read, is_accepted, with_change, state_of}
use Rattle.durable_book.specs.Moments.{longest_of}

-- what is asked of histories
abbrev pub Whole : Type 0
Whole = (g : Setting) (history : List Entry) → state_of g history ≡ after_all g start history

-- what is chosen of two numbers is bounded where both are
either : (b : Bool) (m n bound : ℕ) → m ≤ bound → n ≤ bound → (if b then m else n) ≤ bound
either true m n bound p q = p
either false m n bound p q = q

-- what holds of two states holds of the one that is chosen
one_of : (P : State → Type 0) (b : Bool) (s t : State) → P s → P t → P (if b then s else t)
one_of P true s t p q = p
one_of P false s t p q = q

-- shared caches keep what is kept at all
shared_some : (shared n : ℕ) → 0 < n → (if nat_lt 0 n then shared else 0) ≡ shared
shared_some shared n some = ap (λ (b : Bool). if b then shared else 0) (lt-ltb 0 n some)

-- a longer lifetime is kept no shorter
kept_longer : (shared ttl high : ℕ) → ttl ≤ high → max ttl (if nat_lt 0 ttl then shared else 0) ≤ max high (if nat_lt 0 high then shared else 0)
kept_longer shared zero high low = omega arith
kept_longer shared (suc n) high low =
    let here = shared_some shared (suc n) (omega arith) in
    let there = shared_some shared high (omega (arith, low)) in
    omega (arith, here, there, low)

module _ (g : Setting) (order : g.ttl_low ≤ g.ttl_high) where
  -- an estimate is no longer than the greatest lifetime
  abbrev IsEstimate : KeyShape × ℕ → Type 0
  IsEstimate e = e.1 ≤ g.ttl_high

  -- a copy is kept no longer than one of that lifetime
  abbrev IsShort : IssuedCopy → Type 0
  IsShort r = r.ttl ≤ longest_of g

  -- each copy and each estimate of a state is so
  record IsBounded (s : State) : Type 0 where
    copies : All IsShort s.copies
    estimates : All IsEstimate s.estimates

  within_low : (n : ℕ) → within (limits_of g) n ≤ g.ttl_high
  within_low n = omega (arith, order)

  -- the estimate of a key, and 0 without one
  first_low : (b : Bool) (n : ℕ) (rest : Option ℕ) → n ≤ g.ttl_high → unwrap_or rest 0 ≤ g.ttl_high → unwrap_or (if b then Some n else rest) 0 ≤ g.ttl_high
  first_low true n rest p q = p
  first_low false n rest p q = q

  lookup_low : (test : KeyShape → Bool) (es : List (KeyShape × ℕ)) → All IsEstimate es → unwrap_or (lookup test es) 0 ≤ g.ttl_high
  lookup_low test [] low = omega arith
  lookup_low test (e ∷ es) low = first_low (test e.0) e.1 (lookup test es) (All-head IsEstimate e es low) (lookup_low test es (All-tail IsEstimate e es low))

  some_low : (b : Bool) (o : Option ℕ) → unwrap_or o 0 ≤ g.ttl_high → unwrap_or (if b then o else None) 0 ≤ g.ttl_high
  some_low true o p = p
  some_low false o p = omega arith

  estimate_low : (s : State) (key : KeyShape) → All IsEstimate s.estimates → unwrap_or (estimate s key) 0 ≤ g.ttl_high
  estimate_low s key low = some_low _ (lookup (same_key key) s.estimates) (lookup_low (same_key key) s.estimates low)

  -- a lifetime
  estimated_low : (s : State) (key : KeyShape) (at : ℕ) → All IsEstimate s.estimates → estimated_ttl g s key at ≤ g.ttl_high
  estimated_low s (Record collection id) at low = either _ 0 _ g.ttl_high (omega arith) (within_low _)
  estimated_low s (Query kind normal) at low =
      either _ 0 _ g.ttl_high (omega arith) (either _ _ _ g.ttl_high (estimate_low s (Query kind normal) low) (within_low _))

  absent_low : (active : Bool) (count ttl : ℕ) → ttl ≤ g.ttl_high → absent_ttl g active count ttl ≤ g.ttl_high
  absent_low active count ttl low = either _ 0 (min ttl g.ttl_absent) g.ttl_high (omega arith) (omega (arith, low))

  ttl_low : (s : State) (key : KeyShape) (at : ℕ) → All IsEstimate s.estimates → ttl_of g s key at ≤ g.ttl_high
  ttl_low s key at low =
      let other = estimated_low s key at low in
      either _ _ _ g.ttl_high (absent_low _ _ (estimated_ttl g s key at) other) other

  kept_low : (ttl : ℕ) → ttl ≤ g.ttl_high → kept_for g ttl ≤ longest_of g
  kept_low ttl low = kept_longer g.ttl_shared ttl g.ttl_high low

  -- an estimate more, or none
  noted_low : (b : Bool) (e : KeyShape × ℕ) (es : List (KeyShape × ℕ)) → IsEstimate e → All IsEstimate es → All IsEstimate (if b then e ∷ es else es)
  noted_low true e es p low = All-cons IsEstimate e es p low
  noted_low false e es p low = low

  -- what an entry leaves
  after_low : (s : State) (e : Entry) → IsBounded s → IsBounded (after g s e)
  after_low s (Write moment change condition) b =
      one_of IsBounded (is_accepted g (at_moment s moment) change condition) (with_change change (at_moment s moment)) (at_moment s moment)
      (record { copies = b.copies; estimates = b.estimates }) (record { copies = b.copies; estimates = b.estimates })
  after_low s (Read moment key tags at) b =
      let t = at_moment s moment in
      let low = ttl_low t key at b.estimates in
      record {
        copies = All-push IsShort s.copies (copy_of_read g t key at) b.copies (kept_low (ttl_of g t key at) low);
        estimates = noted_low _ (key, ttl_of g t key at) s.estimates low b.estimates;
      }
  after_low s (Match moment to) b =
      let t = at_moment s moment in
      record {
        copies = b.copies;
        estimates = All-append IsEstimate _ s.estimates (All-map IsEstimate (λ (key : KeyShape). (key, estimate_after g t key)) (purged_keys t to) (λ i d small. within_low _)) b.estimates;
      }
  after_low s (Horizon moment to) b = record { copies = b.copies; estimates = b.estimates }
  after_low s e b = record { copies = b.copies; estimates = b.estimates }

  all_low : (s : State) (es : List Entry) → IsBounded s → IsBounded (after_all g s es)
  all_low s [] b = b
  all_low s (e ∷ es) b = all_low (after g s e) es (after_low s e b)

  -- each copy of a history
  pub copies-short : Whole → (history : List Entry) → All (λ (r : IssuedCopy). r.ttl ≤ longest_of g) (state_of g history).copies
  copies-short whole history =
      (subst IsBounded (sym (whole g history)) (all_low start history (record { copies = All-nil IsShort; estimates = All-nil IsEstimate }))).copies
