-- The copies of absent records through each step.
use Rattle.std.proofs.Common.{◌≡◌, ◌⊎◌, ℕ, ◌+◌, ◌*◌, ◌<◌, ◌≤◌, Bool, true, false, cond, not, ◌&&◌, max, min, nat_lt, List, [], ◌∷◌, ◌++◌, length, map, filter, Option, Some, None, if◌then◌else◌, refl, sym, ap, ◌∙◌, subst, inl, inr, arith, append-nil}
use Rattle.std.proofs.lemmas.Bool.{cases_lt, lt-ltb, le-ltb}
use Rattle.std.proofs.lemmas.List.{map-append}
use Rattle.std.proofs.lemmas.List.Elements.{filter-append}
use Rattle.query_normal.specs.declared.key.KeyShape.{KeyShape}
use Rattle.issued_expiries.specs.Copies.{Copy, SameCopies, active_keys, is_active, unexpired, latest_where}
use Rattle.issued_expiries.specs.Expiries.{Issued}
use Rattle.issued_expiries.proofs.LawLemmas.{same_later, same_then}
use Rattle.hub_model.specs.Copies.{active_keys as active_of, is_active as is_active_in, is_live, issues, live}
use Rattle.commit_book.specs.declared.change.Change.{Change}
use Rattle.hub_model.specs.Journal.{Finding, absent, present, queried, result_at}
use Rattle.hub_model.specs.Lifetime.{absent_ttl, estimated_ttl, is_absence, is_absent, is_bounded, kept_for, of_absents, ttl_of}
use Rattle.hub_model.specs.Setting.{Setting, default_setting}
use Rattle.hub_model.specs.State.{IssuedCopy, State, at_moment, until_of}
use Rattle.hub_model.specs.Step.{copy_of_read, has_read}
use Rattle.hub_model.proofs.Issues.{kept-some, live-more}
use Rattle.hub_model.specs.Reply.{outcome_of}
use Rattle.hub_core.specs.Absents.{AreAbsents, HasAbsents, absents_of, tells_absence}
use Rattle.hub_core.specs.ActiveQueries.{is_query}
use Rattle.hub_core.specs.CopiesView.{no_copies}
use Rattle.hub_core.specs.Copied.{copy_of, copies_of}
use Rattle.hub_core.proofs.LifeLemmas.{active-number}
use Rattle.hub_core.proofs.StateLemmas.{active-copies, copies-later, copies-live, live-again, same-read}

-- ---- the clock

-- what expires by the later of two clocks
expired-again : (early late : ℕ) (xs : List Copy) → early ≤ late → unexpired late xs ≡ unexpired late (unexpired early xs)
expired-again early late [] low = refl
expired-again early late (x ∷ xs) low =
    let rest = expired-again early late xs low in
    elim (cases_lt late x.2) [
      | inl after ↦ (
          let first = lt-ltb late x.2 after in
          rw (first, lt-ltb early x.2 (omega (arith, low, after)), first) (ap (λ (ys : List Copy). x ∷ ys) rest))
      | inr past ↦ (
          let first = le-ltb late x.2 past in
          elim (cases_lt early x.2) [
            | inl between ↦ rw (first, lt-ltb early x.2 between, first) rest
            | inr before ↦ rw (first, le-ltb early x.2 before) rest
          ])
    ]

-- they are so when the clock moves
pub absents-moved : (g : Setting) (a : Issued) (s : State) (moment : ℕ) → HasAbsents g a s → HasAbsents g a (at_moment s moment)
absents-moved g a s moment have = λ some.
    let was = have some in
    let early = was.clock in
    record {
      clock = omega (arith, early);
      copies =
          copies-later (unexpired s.clock a.held) (unexpired (max s.clock moment) a.held) (max s.clock moment) moment (of_absents s) was.copies
          (λ key test. ap (latest_where key test) (expired-again s.clock (max s.clock moment) a.held (omega arith))) refl;
    }

-- at the clock of the state they are its own
module _ (a : Issued) (t : State) (clock : a.clock ≡ t.clock) (is : SameCopies a.held (absents_of t)) where
  pub absents-active : (key : KeyShape) → is_active a.held key ≡ is_active_in (of_absents t) key
  absents-active key = active-copies a.held (of_absents t) is key

  pub absents-count : active_keys a.held ≡ length (active_of (of_absents t))
  absents-count = sym (active-number (record (no_copies default_setting) { copies = a.held }) (of_absents t) is)

-- when the clock has moved to it
pub absents-at : (a new : Issued) (moment : ℕ) (t : State) → new.clock ≡ max a.clock moment → SameCopies new.held (unexpired new.clock a.held) → moment ≡ t.clock → AreAbsents a t → (new.clock ≡ t.clock) × SameCopies new.held (absents_of t)
absents-at a new moment t clock held now are =
    let low = are.clock in
    let same : new.clock ≡ t.clock = omega (arith, clock, now, low) in
    (same, same_then new.held (unexpired t.clock a.held) (absents_of t) (subst (λ (n : ℕ). SameCopies new.held (unexpired n a.held)) same held) are.copies)

-- the lifetime that is bounded by what is kept, when the clock has moved
pub absent-ttl-at : (g : Setting) (a moved : Issued) (key : KeyShape) (moment estimated : ℕ) (active : Bool) (count ttl : ℕ) (t : State) → moved.clock ≡ max a.clock moment → SameCopies moved.held (unexpired moved.clock a.held) → moment ≡ t.clock → AreAbsents a t →
    active ≡ is_active moved.held key → count ≡ active_keys moved.held → ttl ≡ absent_ttl g active count estimated → ttl ≡ absent_ttl g (is_active_in (of_absents t) key) (length (active_of (of_absents t))) estimated
absent-ttl-at g a moved key moment estimated active count ttl t clock held now are active_is count_is ttl_is =
    let at = absents-at a moved moment t clock held now are in
    ttl_is
    ∙ (let is = active_is ∙ absents-active moved t at.0 at.1 key in
    let number = count_is ∙ absents-count moved t at.0 at.1 in
    (λ i. absent_ttl g (is i) (number i) estimated))

-- where the lifetime is bounded they are kept
pub absents-there : (g : Setting) (a : Issued) (t : State) (none : Bool) → HasAbsents g a t → is_bounded g none ≡ true → AreAbsents a t
absents-there g a t none have bounded = have (by (nat_lt 0 g.ttl_absent) none bounded)
  where
    by : (b d : Bool) → (b && d) ≡ true → b ≡ true
    by true d h = refl
    by false d h = absurd (let e = h in cc)

-- ---- a read

module _ (g : Setting) (key : KeyShape) (at : ℕ) (t : State) where
  abbrev copy : IssuedCopy
  copy = copy_of_read g t key at

  abbrev among : List IssuedCopy
  among = filter (λ r. r.absent) t.copies

  abbrev behind : List IssuedCopy → List Copy
  behind copies = map copy_of (live (record t { copies = copies }))

  absents-read : (b : Bool) → is_absent t key at ≡ b → absents_of (has_read g key at t) ≡ behind (among ++ cond b (copy ∷ []) [])
  absents-read b is = ap behind (filter-append (λ (r : IssuedCopy). r.absent) t.copies (copy ∷ [])) ∙ ap (λ (c : Bool). behind (among ++ cond c (copy ∷ []) [])) is

  -- one that finds something adds none
  absents-none : is_absent t key at ≡ false → absents_of (has_read g key at t) ≡ absents_of t
  absents-none is = absents-read false is ∙ ap behind (append-nil among)

  -- one that finds nothing adds its copy
  absents-more : is_absent t key at ≡ true → absents_of (has_read g key at t) ≡ absents_of t ++ map copy_of (if nat_lt 0 (ttl_of g t key at) then copy ∷ [] else [])
  absents-more is =
      absents-read true is
      ∙ ap (map copy_of) (live-more (of_absents t) copy refl ∙ ap (λ (b : Bool). live (of_absents t) ++ cond b (copy ∷ []) []) (kept-some g (ttl_of g t key at)))
      ∙ map-append copy_of (live (of_absents t)) (if nat_lt 0 (ttl_of g t key at) then copy ∷ [] else [])

  -- where the lifetime is not bounded they stay
  pub absents-unbounded : (a : Issued) → HasAbsents g a t → is_bounded g (is_absent t key at) ≡ false → HasAbsents g a (has_read g key at t)
  absents-unbounded a have none = λ some.
      let was = have some in
      let present : is_absent t key at ≡ false = ap (λ (b : Bool). b && is_absent t key at) (sym some) ∙ none in
      record { clock = was.clock; copies = subst (λ (xs : List Copy). SameCopies (unexpired t.clock a.held) xs) (sym (absents-none present)) was.copies }

  -- the lifetime is the estimated one
  pub ttl-unbounded : is_bounded g (is_absent t key at) ≡ false → ttl_of g t key at ≡ estimated_ttl g t key at
  ttl-unbounded none = ap (λ (b : Bool). if b then absent_ttl g (is_active_in (of_absents t) key) (length (active_of (of_absents t))) (estimated_ttl g t key at) else estimated_ttl g t key at) none

  -- or the bounded one
  pub ttl-bounded : is_bounded g (is_absent t key at) ≡ true → ttl_of g t key at ≡ absent_ttl g (is_active_in (of_absents t) key) (length (active_of (of_absents t))) (estimated_ttl g t key at)
  ttl-bounded some = ap (λ (b : Bool). if b then absent_ttl g (is_active_in (of_absents t) key) (length (active_of (of_absents t))) (estimated_ttl g t key at) else estimated_ttl g t key at) some

  -- where it is, the copy is issued
  pub absents-issued : (new : Issued) (clock ttl : ℕ) → is_bounded g (is_absent t key at) ≡ true → clock ≡ t.clock → ttl ≡ ttl_of g t key at → new.clock ≡ t.clock →
      SameCopies new.held (if nat_lt 0 ttl then (key, at, clock + kept_for g ttl) ∷ absents_of t else absents_of t) → HasAbsents g new (has_read g key at t)
  absents-issued new clock ttl bounded now life at_clock more = λ some.
      let none : is_absent t key at ≡ true = both (nat_lt 0 g.ttl_absent) (is_absent t key at) bounded in
      let n = ttl_of g t key at in
      let same : SameCopies new.held (if nat_lt 0 n then (key, at, t.clock + kept_for g n) ∷ absents_of t else absents_of t) =
      subst (λ (c : ℕ). SameCopies new.held (if nat_lt 0 n then (key, at, c + kept_for g n) ∷ absents_of t else absents_of t)) now
      (subst (λ (m : ℕ). SameCopies new.held (if nat_lt 0 m then (key, at, clock + kept_for g m) ∷ absents_of t else absents_of t)) life more) in
      let all : SameCopies new.held (absents_of (has_read g key at t)) =
      same-read (nat_lt 0 n) copy (absents_of t) new.held (absents_of t) (absents_of (has_read g key at t)) (λ k test. refl) (absents-more none) same in
      record {
        clock = omega (arith, at_clock);
        copies = λ k test.
            same_later new.held (absents_of (has_read g key at t)) t.clock all k test
            ∙ ap (latest_where k test) (sym (ap (map copy_of) (live-again t.clock t.clock (issues (of_absents (has_read g key at t))) (omega arith)) ∙ copies-live t.clock (live (of_absents (has_read g key at t)))));
      }
    where
      both : (a b : Bool) → (a && b) ≡ true → b ≡ true
      both true b h = h
      both false b h = absurd (let e = h in cc)

-- ---- places

-- a key with a lifetime has a place among the absent active keys, or one is free
pub place-free : (g : Setting) (active : Bool) (count estimated : ℕ) → 0 < absent_ttl g active count estimated → (0 < estimated) × ((active ≡ true) ⊎ (4 * (count + 1) ≤ g.active))
place-free g true count estimated some = (omega (arith, some), inl refl)
place-free g false count estimated some = elim (cases_lt g.active (4 * (count + 1))) [
  | inl above ↦ absurd (let e : absent_ttl g false count estimated ≡ 0 = ap (λ (b : Bool). if b then 0 else min estimated g.ttl_absent) (lt-ltb g.active (4 * (count + 1)) above) in omega (arith, some, e))
  | inr free ↦ (
      let e : absent_ttl g false count estimated ≡ min estimated g.ttl_absent = ap (λ (b : Bool). if b then 0 else min estimated g.ttl_absent) (le-ltb g.active (4 * (count + 1)) free) in
      (omega (arith, some, e), inr free))
]

-- ---- outcomes

-- an outcome tells of no record where none is found
pub tells-absence : (f : Finding) (known : Option ℕ) → tells_absence (outcome_of f known) ≡ is_absence f
tells-absence absent known = refl
tells-absence (present version tree) (Some tag) = refl
tells-absence (present version tree) None = refl
tells-absence (queried result) (Some tag) = refl
tells-absence (queried result) None = refl

-- a query finds a result, so no lifetime of one is bounded
pub query-unbounded : (g : Setting) (key : KeyShape) (journal : List Change) (n : ℕ) → is_query key ≡ true → false ≡ is_bounded g (is_absence (result_at key journal n))
query-unbounded g (KeyShape.Record collection id) journal n query = absurd (let e = query in cc)
query-unbounded g (KeyShape.Query kind normal) journal n query = by (nat_lt 0 g.ttl_absent)
  where
    by : (b : Bool) → false ≡ (b && false)
    by true = refl
    by false = refl

-- other reserved memory changes nothing
pub absents-reserved : (g : Setting) (a new : Issued) (s : State) → new ≡ record a { reserved = new.reserved } → HasAbsents g a s → HasAbsents g new s
absents-reserved g a new s is have = subst (λ (x : Issued). HasAbsents g x s) (sym is) (λ some. (let was = have some in record { clock = was.clock; copies = was.copies }))
