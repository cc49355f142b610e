-- What a match leaves, commit by commit.
use Rattle.std.proofs.Common.{◌≡◌, ◌≢◌, ℕ, suc, ◌-◌, ◌<◌, ◌≤◌, max, Bool, true, false, cond, ◌&&◌, List, [], ◌∷◌, map, filter, refl, sym, ap, ◌∙◌, subst, inl, inr, arith}
use Rattle.std.specs.Prelude.{nat_le, nat_lt, if◌then◌else◌}
use Rattle.std.proofs.lemmas.Bool.{cases_Bool, cases_lt, cases_eq, both_ways, and_parts, and_from, lt-ltb, le-ltb, le-leb, not-true, not-false}
use Rattle.std.proofs.lemmas.List.Elements.{filter_agree}
use Rattle.query_normal.specs.declared.key.KeyShape.{KeyShape}
use Rattle.query_normal.specs.Keys.{same_key}
use Rattle.query_normal.specs.SameKey.{same_key-Decides}
use Rattle.commit_book.specs.declared.change.Change.{Change}
use Rattle.hub_model.specs.Copies.{live}
use Rattle.hub_model.specs.Journal.{result_at, same_finding}
use Rattle.hub_model.specs.Outdated.{IsOutdated, IsChangedAfter, is_outdated, is_changed}
use Rattle.hub_model.specs.Record.{is_outdated_in}
use Rattle.hub_model.specs.State.{IssuedCopy, State, until_of}
use Rattle.hub_model.specs.Until.{greatest, until_among, latest_until, until_of_outdated}
use Rattle.hub_model.proofs.Moves.{moves-from_differs, differs-from_moves}
use Rattle.hub_model.proofs.Recorded.{not_outdated}
use Rattle.hub_model.proofs.Results.{same_finding-Decides, result_at_decided, outdated-from_test, test-from_outdated}

-- ---- by neighbouring commits

-- two tests that pass together are one
same_test : (a b : Bool) → (a ≡ true → b ≡ true) → (b ≡ true → a ≡ true) → a ≡ b
same_test true b to back = sym (to refl)
same_test false true to back = back refl
same_test false false to back = refl

-- what the test of a change decides
changed_differs : (key : KeyShape) (journal : List Change) (n : ℕ) → is_changed key journal n ≡ true → result_at key journal n ≢ result_at key journal (n - 1)
changed_differs key journal n h e = both_ways (same_finding (result_at key journal n) (result_at key journal (n - 1)))
    (not-true (same_finding (result_at key journal n) (result_at key journal (n - 1))) h) ((same_finding-Decides (result_at key journal n) (result_at key journal (n - 1))).1 e)

unchanged_same : (key : KeyShape) (journal : List Change) (n : ℕ) → is_changed key journal n ≡ false → result_at key journal n ≡ result_at key journal (n - 1)
unchanged_same key journal n h = (same_finding-Decides (result_at key journal n) (result_at key journal (n - 1))).0 (not-false (same_finding (result_at key journal n) (result_at key journal (n - 1))) h)

differs_changed : (key : KeyShape) (journal : List Change) (n : ℕ) → result_at key journal n ≢ result_at key journal (n - 1) → is_changed key journal n ≡ true
differs_changed key journal n h = elim (cases_Bool (same_finding (result_at key journal n) (result_at key journal (n - 1)))) [
  | inl same ↦ absurd (h ((same_finding-Decides (result_at key journal n) (result_at key journal (n - 1))).0 same))
  | inr other ↦ rw (other) refl
]

-- of the copies of a key of one commit
module _ (key : KeyShape) (c : ℕ) (journal : List Change) where
  pub outdated-by_steps : (front : ℕ) → IsOutdated key c journal front → IsChangedAfter key c journal front
  outdated-by_steps front = moves-from_differs (result_at key journal) (result_at_decided key journal) c front

  pub steps-outdated : (front : ℕ) → IsChangedAfter key c journal front → IsOutdated key c journal front
  steps-outdated front = differs-from_moves (result_at key journal) (result_at_decided key journal) c front

  -- where the next commit changes the result, the copies before it are outdated, and no other
  pub is_outdated-changed : (n : ℕ) → is_changed key journal (suc n) ≡ true → is_outdated key c journal (suc n) ≡ nat_lt c (suc n)
  is_outdated-changed n h = elim (cases_lt c (suc n)) [
    | inl before ↦ test-from_outdated key c journal (suc n) (steps-outdated (suc n) (suc n, before, omega arith, changed_differs key journal (suc n) h)) ∙ sym (lt-ltb c (suc n) before)
    | inr after ↦ not_outdated key c journal (suc n) after ∙ sym (le-ltb c (suc n) after)
  ]

  -- where it does not, no further copy is outdated
  pub is_outdated-unchanged : (n : ℕ) → is_changed key journal (suc n) ≡ false → is_outdated key c journal (suc n) ≡ is_outdated key c journal n
  is_outdated-unchanged n h = same_test (is_outdated key c journal (suc n)) (is_outdated key c journal n)
      (λ t. (
      let m = outdated-by_steps (suc n) (outdated-from_test key c journal (suc n) t) in
      elim (cases_eq m.0 (suc n)) [
        | inl last ↦ absurd (m.3 (subst (λ k. result_at key journal k ≡ result_at key journal (k - 1)) (sym last) (unchanged_same key journal (suc n) h)))
        | inr earlier ↦ (let upto = m.2 in test-from_outdated key c journal n (steps-outdated n (m.0, m.1, omega (arith, upto, earlier), m.3)))
      ]))
      (λ t. (let d = outdated-from_test key c journal n t in let upto = d.2 in test-from_outdated key c journal (suc n) (d.0, d.1, omega (arith, upto), d.3)))

  -- what is outdated at a commit is so at each later one
  pub is_outdated-later : (front later : ℕ) → front ≤ later → is_outdated key c journal front ≡ true → is_outdated key c journal later ≡ true
  is_outdated-later front later order t = (let d = outdated-from_test key c journal front t in let upto = d.2 in test-from_outdated key c journal later (d.0, d.1, omega (arith, upto, order), d.3))

  -- a commit behind that of a copy that changes the result outdates it
  pub is_outdated-by : (front m : ℕ) → c < m → m ≤ front → is_changed key journal m ≡ true → is_outdated key c journal front ≡ true
  is_outdated-by front m after upto h = test-from_outdated key c journal front (steps-outdated front (m, after, upto, changed_differs key journal m h))

  -- what was not outdated at a front and is so later was outdated by a commit between
  pub newly-changed : (front later : ℕ) → is_outdated key c journal front ≡ false → is_outdated key c journal later ≡ true → (m : ℕ) × (front < m) × (m ≤ later) × (c < m) × (is_changed key journal m ≡ true)
  newly-changed front later was is =
      let step = outdated-by_steps later (outdated-from_test key c journal later is) in
      let after = step.1 in (
        step.0,
        elim (cases_lt front step.0) [
          | inl above ↦ above
          | inr within ↦ absurd (both_ways (is_outdated key c journal front) was (test-from_outdated key c journal front (steps-outdated front (step.0, step.1, within, step.3))))
        ],
        step.2,
        step.1,
        differs_changed key journal step.0 step.3,
      )

  -- what is outdated at a commit is of a commit before it
  outdated_before : (front : ℕ) → is_outdated key c journal front ≡ true → c < front
  outdated_before front t = (let d = outdated-from_test key c journal front t in let after = d.1 in let upto = d.2 in omega (arith, after, upto))

-- ---- the untils of a key

-- the tests of one key may be compared at that key alone
of_key : (key : KeyShape) (test other : IssuedCopy → Bool) → ((r : IssuedCopy) → r.key ≡ key → test r ≡ other r) → (r : IssuedCopy) → (same_key key r.key && test r) ≡ (same_key key r.key && other r)
of_key key test other h r = by (same_key key r.key) refl
  where
    by : (b : Bool) → same_key key r.key ≡ b → (b && test r) ≡ (b && other r)
    by true same = h r (sym ((same_key-Decides key r.key).0 same))
    by false same = refl

until-agree : (key : KeyShape) (test other : IssuedCopy → Bool) (rs : List IssuedCopy) → ((r : IssuedCopy) → r.key ≡ key → test r ≡ other r) → until_among key test rs ≡ until_among key other rs
until-agree key test other rs h = ap (λ (l : List IssuedCopy). greatest (map until_of l)) (filter_agree (λ r. same_key key r.key && test r) (λ r. same_key key r.key && other r) (of_key key test other h) rs)

-- a test that passes less has no greater until
until-less : (p q : IssuedCopy → Bool) (rs : List IssuedCopy) → ((r : IssuedCopy) → p r ≡ true → q r ≡ true) → greatest (map until_of (filter p rs)) ≤ greatest (map until_of (filter q rs))
until-less p q [] h = omega arith
until-less p q (r ∷ rs) h = by (p r) (q r) refl refl (until-less p q rs h)
  where
    by : (a b : Bool) → p r ≡ a → q r ≡ b → greatest (map until_of (filter p rs)) ≤ greatest (map until_of (filter q rs))
        → greatest (map until_of (cond a (r ∷ filter p rs) (filter p rs))) ≤ greatest (map until_of (cond b (r ∷ filter q rs) (filter q rs)))
    by true true a b i = omega (arith, i)
    by true false a b i = absurd (let c = h r a in cc)
    by false true a b i = omega (arith, i)
    by false false a b i = i

from_zero : (n : ℕ) → nat_le 0 n ≡ true
from_zero n = le-leb 0 n (omega arith)

-- of a key in one state
module _ (s : State) (key : KeyShape) (n : ℕ) where
  -- a commit that changes the result outdates the key's copies before it
  pub outdated_until-changed : is_changed key s.journal (suc n) ≡ true → until_of_outdated (record s { front = suc n }) key ≡ latest_until s key 0 (suc n)
  outdated_until-changed h = until-agree key (is_outdated_in (record s { front = suc n })) (λ r. nat_le 0 r.at && nat_lt r.at (suc n)) (live s)
      (λ r is_key. (
      let here : is_changed r.key s.journal (suc n) ≡ true = subst (λ (k : KeyShape). is_changed k s.journal (suc n) ≡ true) (sym is_key) h in
      is_outdated-changed r.key r.at s.journal n here ∙ sym (ap (λ (b : Bool). b && nat_lt r.at (suc n)) (from_zero r.at))))

  -- another leaves them as they are
  pub outdated_until-unchanged : is_changed key s.journal (suc n) ≡ false → until_of_outdated (record s { front = suc n }) key ≡ until_of_outdated (record s { front = n }) key
  outdated_until-unchanged h = until-agree key (is_outdated_in (record s { front = suc n })) (is_outdated_in (record s { front = n })) (live s)
      (λ r is_key. is_outdated-unchanged r.key r.at s.journal n (subst (λ (k : KeyShape). is_changed k s.journal (suc n) ≡ false) (sym is_key) h))

  -- what is outdated at a commit is of one before the next
  pub outdated_until-below : until_of_outdated (record s { front = n }) key ≤ latest_until s key 0 (suc n)
  outdated_until-below = until-less (λ r. same_key key r.key && is_outdated_in (record s { front = n }) r) (λ r. same_key key r.key && (nat_le 0 r.at && nat_lt r.at (suc n))) (live s)
      (λ r t. (
      let parts = and_parts (same_key key r.key) (is_outdated_in (record s { front = n }) r) t in
      let before = outdated_before r.key r.at s.journal n parts.1 in
      and_from (same_key key r.key) (nat_le 0 r.at && nat_lt r.at (suc n)) parts.0
      (and_from (nat_le 0 r.at) (nat_lt r.at (suc n)) (from_zero r.at) (lt-ltb r.at (suc n) (omega (arith, before))))))

  -- one commit more
  pub outdated_until-commit : until_of_outdated (record s { front = suc n }) key ≡ max (until_of_outdated (record s { front = n }) key) (if is_changed key s.journal (suc n) then latest_until s key 0 (suc n) else 0)
  outdated_until-commit = by (is_changed key s.journal (suc n)) refl
    where
      by : (b : Bool) → is_changed key s.journal (suc n) ≡ b → until_of_outdated (record s { front = suc n }) key ≡ max (until_of_outdated (record s { front = n }) key) (if b then latest_until s key 0 (suc n) else 0)
      by true h = (let now = outdated_until-changed h in let below = outdated_until-below in omega (arith, now, below))
      by false h = (let now = outdated_until-unchanged h in omega (arith, now))
