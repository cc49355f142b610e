-- Until when copies may be kept, as time passes, copies are issued and commits are covered.
use Rattle.std.proofs.Common.{◌≡◌, ◌⊎◌, ℕ, ◌<◌, ◌≤◌, max, Bool, true, false, cond, ◌&&◌, ◌||◌, List, [], ◌∷◌, map, filter, refl, sym, ap, ◌∙◌, subst, inl, inr, arith}
use Rattle.std.specs.Prelude.{nat_lt, if◌then◌else◌}
use Rattle.std.specs.List.{list_any}
use Rattle.std.proofs.lemmas.Bool.{cases_lt, or_left, lt-ltb, le-ltb, ltb-true, ltb-false, cond-true, cond-false}
use Rattle.query_normal.specs.declared.key.KeyShape.{KeyShape}
use Rattle.query_normal.specs.Keys.{same_key}
use Rattle.hub_model.specs.Copies.{is_active, issues, is_live, live}
use Rattle.hub_model.specs.Record.{is_outdated_in, is_recorded}
use Rattle.hub_model.specs.State.{IssuedCopy, State, until_of, at_moment}
use Rattle.hub_model.specs.Until.{greatest, until_among, until_of_outdated}

-- the greatest until of the copies that pass a test
abbrev until_by : (IssuedCopy → Bool) → List IssuedCopy → ℕ
until_by p copies = greatest (map until_of (filter p copies))

-- a copy in front that passes, and one that does not
until-taken : (p : IssuedCopy → Bool) (r : IssuedCopy) (rs : List IssuedCopy) → p r ≡ true → until_by p (r ∷ rs) ≡ max (until_of r) (until_by p rs)
until-taken p r rs h = ap (λ (b : Bool). greatest (map until_of (cond b (r ∷ filter p rs) (filter p rs)))) h

until-passed : (p : IssuedCopy → Bool) (r : IssuedCopy) (rs : List IssuedCopy) → p r ≡ false → until_by p (r ∷ rs) ≡ until_by p rs
until-passed p r rs h = ap (λ (b : Bool). greatest (map until_of (cond b (r ∷ filter p rs) (filter p rs)))) h

-- ---- unexpired copies

-- among copies whose until is above the moment, one passes exactly where the greatest until of those that pass is above it
any_until : (moment : ℕ) (p : IssuedCopy → Bool) (rs : List IssuedCopy) → list_any p (filter (is_live moment) rs) ≡ nat_lt moment (until_by p (filter (is_live moment) rs))
any_until moment p [] = sym (le-ltb moment 0 (omega arith))
any_until moment p (r ∷ rs) = by (is_live moment r) (p r) refl refl (any_until moment p rs)
  where
    by : (b c : Bool) → is_live moment r ≡ b → p r ≡ c → list_any p (filter (is_live moment) rs) ≡ nat_lt moment (until_by p (filter (is_live moment) rs))
        → list_any p (cond b (r ∷ filter (is_live moment) rs) (filter (is_live moment) rs)) ≡ nat_lt moment (until_by p (cond b (r ∷ filter (is_live moment) rs) (filter (is_live moment) rs)))
    by false c later passes h = h
    by true true later passes h =
        let above : moment < until_of r = ltb-true moment (until_of r) later in
        or_left (p r) (list_any p (filter (is_live moment) rs)) passes
        ∙ sym (ap (nat_lt moment) (until-taken p r (filter (is_live moment) rs) passes) ∙ lt-ltb moment (max (until_of r) (until_by p (filter (is_live moment) rs))) (omega (arith, above)))
    by true false later passes h =
        ap (λ (b : Bool). b || list_any p (filter (is_live moment) rs)) passes ∙ h
        ∙ sym (ap (nat_lt moment) (until-passed p r (filter (is_live moment) rs) passes))

-- a key is recorded as long as the greatest until of its unexpired outdated copies is above the clock
pub recorded_until : (s : State) (key : KeyShape) → is_recorded s key ≡ nat_lt s.clock (until_of_outdated s key)
recorded_until s key = any_until s.clock (λ r. same_key key r.key && is_outdated_in s r) (issues s)

passes : (b : Bool) → (b && true) ≡ b
passes true = refl
passes false = refl

-- a key is active as long as the greatest until of its unexpired copies is above the clock
pub active_until : (s : State) (key : KeyShape) → is_active s key ≡ nat_lt s.clock (until_among key (λ r. true) (live s))
active_until s key = ap (λ (test : IssuedCopy → Bool). list_any test (live s)) (λ i r. sym (passes (same_key key r.key)) i) ∙ any_until s.clock (λ r. same_key key r.key && true) (issues s)

-- ---- time

-- what is left of a greatest until at a later moment
abbrev Leaves : ℕ → ℕ → ℕ → Type 0
Leaves late old new = (late < old → new ≡ old) × (old ≤ late → new ≡ 0)

leaves_expired : (late u old new : ℕ) → u ≤ late → Leaves late old new → Leaves late (max u old) new
leaves_expired late u old new gone l = (
  λ h. (let k : late < old = omega (arith, h, gone) in let kept : new ≡ old = l.0 k in omega (arith, kept, k, gone)),
  λ h. l.1 (omega (arith, h)),
)

leaves_unexpired : (late u old new : ℕ) → late < u → Leaves late old new → Leaves late (max u old) (max u new)
leaves_unexpired late u old new above l = (λ h. by (cases_lt late old), λ h. absurd (omega (arith, h, above)))
  where
    by : (late < old) ⊎ (old ≤ late) → max u new ≡ max u old
    by (inl k) = ap (max u) (l.0 k)
    by (inr k) = (let none : new ≡ 0 = l.1 k in omega (arith, none, k, above))

-- an until that is above no early moment is above no later one
abbrev left : ℕ → (IssuedCopy → Bool) → List IssuedCopy → ℕ
left moment p rs = until_by p (filter (is_live moment) rs)

time_leaves : (early late : ℕ) (p : IssuedCopy → Bool) (rs : List IssuedCopy) → early ≤ late → Leaves late (left early p rs) (left late p rs)
time_leaves early late p [] h = (λ k. refl, λ k. refl)
time_leaves early late p (r ∷ rs) h = by (is_live early r) (is_live late r) (p r) refl refl refl (time_leaves early late p rs h)
  where
    by : (a b c : Bool) → is_live early r ≡ a → is_live late r ≡ b → p r ≡ c → Leaves late (left early p rs) (left late p rs)
        → Leaves late (until_by p (cond a (r ∷ filter (is_live early) rs) (filter (is_live early) rs))) (until_by p (cond b (r ∷ filter (is_live late) rs) (filter (is_live late) rs)))
    by false false c e l passes i = i
    by false true c e l passes i = absurd (let under : until_of r ≤ early = ltb-false early (until_of r) e in let above : late < until_of r = ltb-true late (until_of r) l in omega (arith, under, above, h))
    by true false true e l passes i = subst (λ n. Leaves late n (left late p rs)) (sym (until-taken p r (filter (is_live early) rs) passes)) (leaves_expired late (until_of r) (left early p rs) (left late p rs) (ltb-false late (until_of r) l) i)
    by true false false e l passes i = subst (λ n. Leaves late n (left late p rs)) (sym (until-passed p r (filter (is_live early) rs) passes)) i
    by true true true e l passes i =
        subst (λ n. Leaves late n (until_by p (r ∷ filter (is_live late) rs))) (sym (until-taken p r (filter (is_live early) rs) passes))
        (subst (λ n. Leaves late (max (until_of r) (left early p rs)) n) (sym (until-taken p r (filter (is_live late) rs) passes)) (leaves_unexpired late (until_of r) (left early p rs) (left late p rs) (ltb-true late (until_of r) l) i))
    by true true false e l passes i =
        subst (λ n. Leaves late n (until_by p (r ∷ filter (is_live late) rs))) (sym (until-passed p r (filter (is_live early) rs) passes))
        (subst (λ n. Leaves late (left early p rs) n) (sym (until-passed p r (filter (is_live late) rs) passes)) i)

-- an until stays while it is above the clock, and then there is none
pub until-at_moment : (s : State) (moment : ℕ) (key : KeyShape) (test : IssuedCopy → Bool) → until_among key test (live (at_moment s moment)) ≡ (if nat_lt (max s.clock moment) (until_among key test (live s)) then until_among key test (live s) else 0)
until-at_moment s moment key test = by (cases_lt (max s.clock moment) (until_among key test (live s)))
  where
    leaves : Leaves (max s.clock moment) (until_among key test (live s)) (until_among key test (live (at_moment s moment)))
    leaves = time_leaves s.clock (max s.clock moment) (λ r. same_key key r.key && test r) (issues s) (omega arith)

    by : (max s.clock moment < until_among key test (live s)) ⊎ (until_among key test (live s) ≤ max s.clock moment) → until_among key test (live (at_moment s moment)) ≡ (if nat_lt (max s.clock moment) (until_among key test (live s)) then until_among key test (live s) else 0)
    by (inl above) = leaves.0 above ∙ sym (cond-true (nat_lt (max s.clock moment) (until_among key test (live s))) (until_among key test (live s)) 0 (lt-ltb (max s.clock moment) (until_among key test (live s)) above))
    by (inr under) = leaves.1 under ∙ sym (cond-false (nat_lt (max s.clock moment) (until_among key test (live s))) (until_among key test (live s)) 0 (le-ltb (max s.clock moment) (until_among key test (live s)) under))
