-- The keys that a match purges, by its invalidations and by the copies, and the last changes that it leaves.
use Rattle.std.proofs.Common.{◌≡◌, ℕ, suc, ◌<◌, ◌≤◌, ◌==◌, Bool, true, false, not, ◌&&◌, ◌||◌, max, nat_lt, nat_le, List, [], ◌∷◌, map, All, Option, Some, None, is_some, unwrap_or, if◌then◌else◌, refl, sym, ap, ap₂, ◌∙◌, subst, arith, inl, inr}
use Rattle.std.specs.List.{list_any}
use Rattle.std.proofs.lemmas.Bool.{cases_Bool, cases_lt, lt-ltb, le-ltb, le-leb, ltb-true, ltb-false, leb-true, eq-eqb, eqb-true, and_parts, and_from, and_left, and_right, or_cases, or_left, or_right}
use Rattle.query_normal.specs.Keys.{same_key}
use Rattle.query_normal.specs.SameKey.{same_key-Decides}
use Rattle.query_normal.specs.declared.key.KeyShape.{KeyShape}
use Rattle.issued_expiries.specs.Copies.{Copy, latest_where, latest_of, until_at, is_between, is_active}
use Rattle.purge_list.specs.LastChanges.{Changes, change_of, is_known}
use Rattle.commit_book.specs.declared.change.Change.{Change}
use Rattle.hub_model.specs.Copies.{live}
use Rattle.hub_model.specs.Outdated.{is_outdated, is_changed}
use Rattle.hub_model.specs.Purge.{is_newly_outdated, is_purged}
use Rattle.hub_model.specs.State.{IssuedCopy, State, until_of}
use Rattle.hub_model.proofs.Covered.{is_outdated-later, is_outdated-by, newly-changed}
use Rattle.hub_core.specs.declared.invalidations.Invalidation.{Invalidation}
use Rattle.hub_core.specs.CopiesView.{until_below}
use Rattle.hub_core.specs.Copied.{copy_of}
use Rattle.hub_core.specs.HubState.{HasCopies}
use Rattle.hub_core.specs.Invalidations.{is_invalidation, is_after, AreInvalidationsOf, HaveEntries, purges_at, raised_by}
use Rattle.hub_core.specs.Lifetimes.{has_copy, HaveLastChanges}
use Rattle.hub_core.proofs.CopyLemmas.{latest, latest-cons}
use Rattle.hub_core.proofs.GreatestLemmas.{best, best-hit, best-miss, best-le}

-- two tests that pass together are one
same-test : (a b : Bool) → (a ≡ true → b ≡ true) → (b ≡ true → a ≡ true) → a ≡ b
same-test true b to back = sym (to refl)
same-test false true to back = back refl
same-test false false to back = refl

-- what is not so is false
was-not : (a : Bool) → not a ≡ true → a ≡ false
was-not true h = absurd (let e = h in cc)
was-not false h = refl

-- an element that passes a test, and with which any test that it passes is true of the list
found-in : {X : Type 0} (p : X → Bool) (xs : List X) → list_any p xs ≡ true → (x : X) × (p x ≡ true) × ((q : X → Bool) → q x ≡ true → list_any q xs ≡ true)
found-in p [] h = absurd (let e = h in cc)
found-in p (x ∷ xs) h =
    elim (or_cases (p x) (list_any p xs) h) [
      | inl here ↦ (x, here, λ q hit. or_left (q x) (list_any q xs) hit)
      | inr there ↦ (let f = found-in p xs there in (f.0, f.1, λ q hit. or_right (q x) (list_any q xs) (f.2 q hit)))
    ]

-- an element that passes is above a number where the greatest is
any-above : {X : Type 0} (u : X → ℕ) (p : X → Bool) (c : ℕ) (xs : List X) → list_any (λ x. p x && nat_lt c (u x)) xs ≡ nat_lt c (best u p xs)
any-above u p c [] = sym (le-ltb c 0 (omega arith))
any-above {X} u p c (x ∷ xs) =
    let rest = any-above u p c xs in
    let others : Bool = list_any (λ (y : X). p y && nat_lt c (u y)) xs in
    elim (cases_Bool (p x)) [
      | inl hit ↦ (
          let is = best-hit u p x xs hit in
          elim (cases_lt c (u x)) [
            | inl above ↦ or_left (p x && nat_lt c (u x)) others (and_from (p x) (nat_lt c (u x)) hit (lt-ltb c (u x) above)) ∙ sym (lt-ltb c (best u p (x ∷ xs)) (omega (arith, is, above)))
            | inr below ↦ (
                ap (λ (b : Bool). b || others) (and_right (p x) (nat_lt c (u x)) (le-ltb c (u x) below))
                ∙ rest
                ∙ elim (cases_lt c (best u p xs)) [
                  | inl more ↦ lt-ltb c (best u p xs) more ∙ sym (lt-ltb c (best u p (x ∷ xs)) (omega (arith, is, more)))
                  | inr less ↦ le-ltb c (best u p xs) less ∙ sym (le-ltb c (best u p (x ∷ xs)) (omega (arith, is, less, below)))
                ])
          ])
      | inr miss ↦ ap (λ (b : Bool). b || others) (and_left (p x) (nat_lt c (u x)) miss) ∙ rest ∙ ap (nat_lt c) (sym (best-miss u p x xs miss))
    ]

-- ---- the copies of a key by their commits

-- one copy more leaves no earlier until
latest-more : (key : KeyShape) (test : ℕ → Bool) (x : Copy) (xs : List Copy) → unwrap_or (latest_where key test xs) 0 ≤ unwrap_or (latest_where key test (x ∷ xs)) 0
latest-more key test x xs =
    let is = ap (λ (o : Option ℕ). unwrap_or o 0) (latest-cons key test x xs) in
    let more = by (same_key key x.0 && test x.1) (latest_where key test xs) x.2 in
    omega (arith, is, more)
  where
    by : (b : Bool) (o : Option ℕ) (n : ℕ) → unwrap_or o 0 ≤ unwrap_or (latest (if b then Some n else None) o) 0
    by true None n = omega arith
    by true (Some m) n = omega arith
    by false o n = omega arith

-- and takes no copy away
some-more : (key : KeyShape) (test : ℕ → Bool) (x : Copy) (xs : List Copy) → is_some (latest_where key test xs) ≡ true → is_some (latest_where key test (x ∷ xs)) ≡ true
some-more key test x xs some = ap is_some (latest-cons key test x xs) ∙ by (same_key key x.0 && test x.1) (latest_where key test xs) x.2 some
  where
    by : (b : Bool) (o : Option ℕ) (n : ℕ) → is_some o ≡ true → is_some (latest (if b then Some n else None) o) ≡ true
    by true o n h = refl
    by false o n h = h

-- it is there itself
own-passes : (key : KeyShape) (test : ℕ → Bool) (x : Copy) (xs : List Copy) → (same_key key x.0 && test x.1) ≡ true → latest_where key test (x ∷ xs) ≡ latest (Some x.2) (latest_where key test xs)
own-passes key test x xs hit = latest-cons key test x xs ∙ ap (λ (b : Bool). latest (if b then Some x.2 else None) (latest_where key test xs)) hit

own-least : (key : KeyShape) (test : ℕ → Bool) (x : Copy) (xs : List Copy) → (same_key key x.0 && test x.1) ≡ true → x.2 ≤ unwrap_or (latest_where key test (x ∷ xs)) 0
own-least key test x xs hit =
    let is = ap (λ (o : Option ℕ). unwrap_or o 0) (own-passes key test x xs hit) in
    let least = by (latest_where key test xs) x.2 in
    omega (arith, is, least)
  where
    by : (o : Option ℕ) (n : ℕ) → n ≤ unwrap_or (latest (Some n) o) 0
    by None n = omega arith
    by (Some m) n = omega arith

-- a test that passes more leaves no earlier until
pub latest-weaker : (key : KeyShape) (p q : ℕ → Bool) (copies : List Copy) → ((commit : ℕ) → p commit ≡ true → q commit ≡ true) → unwrap_or (latest_where key p copies) 0 ≤ unwrap_or (latest_where key q copies) 0
latest-weaker key p q [] sub = omega arith
latest-weaker key p q (x ∷ xs) sub =
    let rest = latest-weaker key p q xs sub in
    let one = ap (λ (o : Option ℕ). unwrap_or o 0) (latest-cons key p x xs) in
    let all = ap (λ (o : Option ℕ). unwrap_or o 0) (latest-cons key q x xs) in
    let step = by (same_key key x.0) (p x.1) (q x.1) (sub x.1) (latest_where key p xs) (latest_where key q xs) x.2 rest in
    omega (arith, one, all, step)
  where
    by : (a b c : Bool) → (b ≡ true → c ≡ true) → (o r : Option ℕ) (t : ℕ) → unwrap_or o 0 ≤ unwrap_or r 0 → unwrap_or (latest (if a && b then Some t else None) o) 0 ≤ unwrap_or (latest (if a && c then Some t else None) r) 0
    by false b c sub o r t h = h
    by true true false sub o r t h = absurd (let e : false ≡ true = sub refl in cc)
    by true true true sub None None t h = omega arith
    by true true true sub None (Some m) t h = omega arith
    by true true true sub (Some n) None t h = omega (arith, h)
    by true true true sub (Some n) (Some m) t h = omega (arith, h)
    by true false false sub o r t h = h
    by true false true sub None None t h = omega arith
    by true false true sub None (Some m) t h = omega arith
    by true false true sub (Some n) None t h = omega (arith, h)
    by true false true sub (Some n) (Some m) t h = omega (arith, h)

-- a copy at a commit that passes is no later than the latest
pub commit-within : (key : KeyShape) (test : ℕ → Bool) (copies : List Copy) (commit : ℕ) → has_copy copies key commit ≡ true → test commit ≡ true → unwrap_or (until_at copies key commit) 0 ≤ unwrap_or (latest_where key test copies) 0
commit-within key test copies commit held passes = latest-weaker key (λ other. other == commit) test copies (λ other same. ap test (eqb-true other commit same) ∙ passes)

-- a copy at a commit that passes, which is kept as long as a second
abbrev pub IsAtCommit : KeyShape → (ℕ → Bool) → List Copy → ℕ → Type 0
IsAtCommit key test copies until = (commit : ℕ) × (test commit ≡ true) × (has_copy copies key commit ≡ true) × (until ≤ unwrap_or (until_at copies key commit) 0)

-- the latest is at a commit that passes
pub latest-commit : (key : KeyShape) (test : ℕ → Bool) (copies : List Copy) (until : ℕ) → latest_where key test copies ≡ Some until → IsAtCommit key test copies until
latest-commit key test [] until is = absurd (let e : ◌≡◌ {A = Option ℕ} None (Some until) = is in cc)
latest-commit key test (x ∷ xs) until is =
    by (same_key key x.0) (test x.1) (latest_where key test xs) refl refl (λ other was. latest-commit key test xs other was) refl (sym (latest-cons key test x xs) ∙ is)
  where
    -- that of the first copy
    first : same_key key x.0 ≡ true → test x.1 ≡ true → until ≤ x.2 → IsAtCommit key test (x ∷ xs) until
    first own passes low =
        let hit : (same_key key x.0 && (x.1 == x.1)) ≡ true = and_from (same_key key x.0) (x.1 == x.1) own (eq-eqb x.1 x.1 refl) in
        let least = own-least key (λ other. other == x.1) x xs hit in
        (x.1, passes, ap is_some (own-passes key (λ other. other == x.1) x xs hit), omega (arith, least, low))

    -- that of the others
    rest : (other : ℕ) → IsAtCommit key test xs other → until ≤ other → IsAtCommit key test (x ∷ xs) until
    rest other r low =
        let most = r.3 in
        let more = latest-more key (λ n. n == r.0) x xs in
        (r.0, r.1, some-more key (λ n. n == r.0) x xs r.2, omega (arith, most, more, low))

    by : (a b : Bool) (o : Option ℕ) → same_key key x.0 ≡ a → test x.1 ≡ b → ((other : ℕ) → latest_where key test xs ≡ Some other → IsAtCommit key test xs other) → latest_where key test xs ≡ o →
        latest (if a && b then Some x.2 else None) o ≡ Some until → IsAtCommit key test (x ∷ xs) until
    by true true None own passes others was h = (let e : x.2 ≡ until = cc in first own passes (omega (arith, e)))
    by true true (Some n) own passes others was h =
        let e : max x.2 n ≡ until = cc in
        elim (cases_lt x.2 n) [
          | inl more ↦ rest n (others n was) (omega (arith, e, more))
          | inr less ↦ first own passes (omega (arith, e, less))
        ]
    by true false o own fails others was h = rest until (others until (was ∙ h)) (omega arith)
    by false b o other passes others was h = rest until (others until (was ∙ h)) (omega arith)

-- a test that passes more of the commits of copies leaves no earlier until
held-weaker : (key : KeyShape) (p q : ℕ → Bool) (copies : List Copy) → ((commit : ℕ) → has_copy copies key commit ≡ true → p commit ≡ true → q commit ≡ true) → unwrap_or (latest_where key p copies) 0 ≤ unwrap_or (latest_where key q copies) 0
held-weaker key p q copies sub = by (latest_where key p copies) refl
  where
    by : (o : Option ℕ) → latest_where key p copies ≡ o → unwrap_or o 0 ≤ unwrap_or (latest_where key q copies) 0
    by None is = omega arith
    by (Some until) is =
        let r = latest-commit key p copies until is in
        let low = r.3 in
        let most = commit-within key q copies r.0 r.2 (sub r.0 r.2 r.1) in
        omega (arith, low, most)

-- a key with a copy is active
pub active-held : (copies : List Copy) (key : KeyShape) (commit : ℕ) → has_copy copies key commit ≡ true → is_active copies key ≡ true
active-held [] key commit held = absurd (let e = held in cc)
active-held (x ∷ xs) key commit held =
    elim (cases_Bool (same_key key x.0)) [
      | inl own ↦ or_left (same_key key x.0) (is_active xs key) own
      | inr other ↦ or_right (same_key key x.0) (is_active xs key) (active-held xs key commit (rw other at held))
    ]

-- ---- the invalidations of a key

-- an active key that is invalidated has its entry
pub entries-known : (copies : List Copy) (changes : Changes) (invalidations : List Invalidation) (key : KeyShape) → HaveEntries copies changes invalidations → is_active copies key ≡ true → list_any (λ m. same_key key m.key) invalidations ≡ true → is_known changes key ≡ true
entries-known copies changes [] key entries active there = absurd (let e = there in cc)
entries-known copies changes (m ∷ ms) key entries active there =
    elim (or_cases (same_key key m.key) (list_any (λ x. same_key key x.key) ms) there) [
      | inl own ↦ subst (λ (k : KeyShape). is_active copies k ≡ true → is_known changes k ≡ true) (sym ((same_key-Decides key m.key).0 own)) (entries 0 m (omega arith)) active
      | inr rest ↦ entries-known copies changes ms key (λ k d low. entries (suc k) d (omega (arith, low))) active rest
    ]

-- the invalidations of a match, of a key
module _ (journal : List Change) (front to : ℕ) (copies : List Copy) (invalidations : List Invalidation) (are : AreInvalidationsOf journal front to copies invalidations) (key : KeyShape) where
  -- what the commit of one does
  invalidation-parts : (commit : ℕ) → 0 < until_below copies key commit → list_any (is_invalidation key commit) invalidations ≡ true → (front < commit) × (commit ≤ to) × (is_changed key journal commit ≡ true)
  invalidation-parts commit some there =
      let parts = and_parts (is_after front to commit) (is_changed key journal commit) (sym (are key commit some) ∙ there) in
      let after = and_parts (nat_lt front commit) (nat_le commit to) parts.0 in
      (ltb-true front commit after.0, leb-true commit to after.1, parts.1)

  -- where it does so it is one
  invalidation-there : (commit : ℕ) → 0 < until_below copies key commit → front < commit → commit ≤ to → is_changed key journal commit ≡ true → list_any (is_invalidation key commit) invalidations ≡ true
  invalidation-there commit some above within changed =
      are key commit some ∙ and_from (is_after front to commit) (is_changed key journal commit) (and_from (nat_lt front commit) (nat_le commit to) (lt-ltb front commit above) (le-leb commit to within)) changed

-- a copy of a commit is among those below a later one
below-held : (copies : List Copy) (key : KeyShape) (commit below : ℕ) → has_copy copies key commit ≡ true → commit < below → unwrap_or (until_at copies key commit) 0 ≤ until_below copies key below
below-held copies key commit below held before =
    commit-within key (is_between 0 below) copies commit held (and_from (nat_le 0 commit) (nat_lt commit below) (le-leb 0 commit (omega arith)) (lt-ltb commit below before))

-- ---- which keys are purged

-- a copy of a commit was not outdated at a front, and is so later
abbrev newly : KeyShape → List Change → ℕ → ℕ → ℕ → Bool
newly key journal front to commit = not (is_outdated key commit journal front) && is_outdated key commit journal to

-- the invalidations purge a key where a match outdates a copy of it that is unexpired then
pub purged-by_invalidations : (journal : List Change) (front to second : ℕ) (copies : List Copy) (changes : Changes) (invalidations : List Invalidation) (key : KeyShape) →
    front ≤ to → HaveLastChanges journal front copies changes → AreInvalidationsOf journal front to copies invalidations →
    list_any (purges_at copies changes second key) invalidations ≡ nat_lt second (unwrap_or (latest_where key (λ n. not (is_outdated key n journal front) && is_outdated key n journal to) copies) 0)
purged-by_invalidations journal front to second copies changes invalidations key forward have are =
    same-test (list_any (purges_at copies changes second key) invalidations) (nat_lt second (unwrap_or (latest_where key (newly key journal front to) copies) 0)) purges outdates
  where
    last : ℕ
    last = change_of changes key

    -- until when the copies that an invalidation outdates may be kept
    upto : KeyShape → ℕ → ℕ
    upto k commit = unwrap_or (latest_of copies k (change_of changes k) commit) 0

    -- the same of an invalidation of the key
    upto_same : (m : Invalidation) (n : ℕ) → same_key key m.key ≡ true → m.commit ≡ n → upto key n ≡ upto m.key m.commit
    upto_same m n own at = ap₂ upto ((same_key-Decides key m.key).0 own) (sym at)

    -- an invalidation outdates the copies of its key from the last change on
    purges_by : (m : Invalidation) → same_key key m.key ≡ true → second < upto m.key m.commit → list_any (is_invalidation key m.commit) invalidations ≡ true → nat_lt second (unwrap_or (latest_where key (newly key journal front to) copies) 0) ≡ true
    purges_by m same above there =
        let own = upto_same m m.commit same refl in
        let wider : upto key m.commit ≤ until_below copies key m.commit =
        latest-weaker key (is_between last m.commit) (is_between 0 m.commit) copies
        (λ c between. and_from (nat_le 0 c) (nat_lt c m.commit) (le-leb 0 c (omega arith)) (and_parts (nat_le last c) (nat_lt c m.commit) between).1) in
        let does = invalidation-parts journal front to copies invalidations are key m.commit (omega (arith, above, own, wider)) there in
        let most : upto key m.commit ≤ unwrap_or (latest_where key (newly key journal front to) copies) 0 =
        held-weaker key (is_between last m.commit) (newly key journal front to) copies
        (λ c held between. (
        let sides = and_parts (nat_le last c) (nat_lt c m.commit) between in
        let was : is_outdated key c journal front ≡ false = sym (have.exact key c held) ∙ le-ltb c last (leb-true last c sides.0) in
        and_from (not (is_outdated key c journal front)) (is_outdated key c journal to) (ap not was)
        (is_outdated-by key c journal to m.commit (ltb-true c m.commit sides.1) does.1 does.2))) in
        lt-ltb second (unwrap_or (latest_where key (newly key journal front to) copies) 0) (omega (arith, above, own, most))

    purges : list_any (purges_at copies changes second key) invalidations ≡ true → nat_lt second (unwrap_or (latest_where key (newly key journal front to) copies) 0) ≡ true
    purges h =
        let f = found-in (purges_at copies changes second key) invalidations h in
        let parts = and_parts (same_key key f.0.key) (nat_lt second (upto f.0.key f.0.commit)) f.1 in
        purges_by f.0 parts.0 (ltb-true second (upto f.0.key f.0.commit) parts.1)
        (f.2 (is_invalidation key f.0.commit) (and_from (same_key key f.0.key) (f.0.commit == f.0.commit) parts.0 (eq-eqb f.0.commit f.0.commit refl)))

    outdates : nat_lt second (unwrap_or (latest_where key (newly key journal front to) copies) 0) ≡ true → list_any (purges_at copies changes second key) invalidations ≡ true
    outdates h = by (latest_where key (newly key journal front to) copies) refl (ltb-true second (unwrap_or (latest_where key (newly key journal front to) copies) 0) h)
      where
        by : (o : Option ℕ) → latest_where key (newly key journal front to) copies ≡ o → second < unwrap_or o 0 → list_any (purges_at copies changes second key) invalidations ≡ true
        by None is low = absurd (omega (arith, low))
        by (Some until) is low =
            let r = latest-commit key (newly key journal front to) copies until is in
            let c = r.0 in
            let held = r.2 in
            let kept = r.3 in
            let parts = and_parts (not (is_outdated key c journal front)) (is_outdated key c journal to) r.1 in
            let was = was-not (is_outdated key c journal front) parts.0 in
            let step = newly-changed key c journal front to was parts.1 in
            let n = step.0 in
            let before = step.3 in
            let below = below-held copies key c n held before in
            let there = invalidation-there journal front to copies invalidations are key n (omega (arith, low, kept, below)) step.1 step.2 step.4 in
            let f = found-in (is_invalidation key n) invalidations there in
            let m = f.0 in
            let own = and_parts (same_key key m.key) (m.commit == n) f.1 in
            let since : last ≤ c = ltb-false c last (have.exact key c held ∙ was) in
            let within = commit-within key (is_between last n) copies c held (and_from (nat_le last c) (nat_lt c n) (le-leb last c since) (lt-ltb c n before)) in
            let same = upto_same m n own.0 (eqb-true m.commit n own.1) in
            f.2 (purges_at copies changes second key) (and_from (same_key key m.key) (nat_lt second (upto m.key m.commit)) own.0 (lt-ltb second (upto m.key m.commit) (omega (arith, low, kept, within, same))))

-- a match purges a key where it outdates one of its copies
pub is_purged-by_copies : (s : State) (copies : List Copy) (to : ℕ) (key : KeyShape) → HasCopies copies s → is_purged s to key ≡ is_some (latest_where key (λ n. not (is_outdated key n s.journal s.front) && is_outdated key n s.journal to) copies)
is_purged-by_copies s copies to key has = sym (ap is_some (has key (newly key s.journal s.front to)) ∙ some (live s))
  where
    -- the tests of one key may be compared at that key alone
    own : (r : IssuedCopy) (b : Bool) → same_key key r.key ≡ b → (b && newly key s.journal s.front to r.at) ≡ (b && is_newly_outdated s to r)
    own r true same = ap (λ (k : KeyShape). newly k s.journal s.front to r.at) ((same_key-Decides key r.key).0 same)
    own r false other = refl

    one : (b : Bool) (n : ℕ) (o : Option ℕ) → is_some (latest (if b then Some n else None) o) ≡ (b || is_some o)
    one true n o = refl
    one false n o = refl

    some : (rs : List IssuedCopy) → is_some (latest_where key (newly key s.journal s.front to) (map copy_of rs)) ≡ list_any (λ r. same_key key r.key && is_newly_outdated s to r) rs
    some [] = refl
    some (r ∷ rs) =
        ap is_some (latest-cons key (newly key s.journal s.front to) (copy_of r) (map copy_of rs))
        ∙ one (same_key key r.key && newly key s.journal s.front to r.at) (until_of r) (latest_where key (newly key s.journal s.front to) (map copy_of rs))
        ∙ ap₂ (λ (a b : Bool). a || b) (own r (same_key key r.key) refl) (some rs)

-- ---- the last changes after a match

-- the last changes that the invalidations of a match raise are those up to its commit, of the copies that are still unexpired
pub changes-raised : (journal : List Change) (front to : ℕ) (copies later : List Copy) (changes mid raised : Changes) (invalidations : List Invalidation) →
    front ≤ to → HaveLastChanges journal front copies changes → AreInvalidationsOf journal front to copies invalidations → All (λ m. m.commit ≤ to) invalidations →
    ((key : KeyShape) (commit : ℕ) → has_copy later key commit ≡ true → 0 < unwrap_or (until_at copies key commit) 0) →
    ((key : KeyShape) → is_active later key ≡ true → (change_of mid key ≡ change_of changes key) × (is_active copies key ≡ true → list_any (λ m. same_key key m.key) invalidations ≡ true → is_known mid key ≡ true)) →
    ((key : KeyShape) → change_of mid key ≤ front) →
    ((key : KeyShape) (commit : ℕ) → has_copy later key commit ≡ true → has_copy copies key commit ≡ true) →
    ((key : KeyShape) → change_of raised key ≡ (if is_known mid key then max (change_of mid key) (raised_by key invalidations) else change_of mid key)) →
    HaveLastChanges journal to later raised
changes-raised journal front to copies later changes mid raised invalidations forward have are most untils stands low were raises = record {
  within = λ key. upto key (is_known mid key) refl;
  exact = λ key commit held. same-test (nat_lt commit (change_of raised key)) (is_outdated key commit journal to) (below key commit held (is_known mid key) refl) (outdated key commit held);
}
  where
    -- the entry of a key that has one, and that of another
    is : (key : KeyShape) (b : Bool) → is_known mid key ≡ b → change_of raised key ≡ (if b then max (change_of mid key) (raised_by key invalidations) else change_of mid key)
    is key b known = raises key ∙ ap (λ (a : Bool). if a then max (change_of mid key) (raised_by key invalidations) else change_of mid key) known

    upto : (key : KeyShape) (b : Bool) → is_known mid key ≡ b → change_of raised key ≤ to
    upto key true known =
        let own = is key true known in
        let old = low key in
        let top : raised_by key invalidations ≤ to = best-le (λ (m : Invalidation). m.commit) (λ (m : Invalidation). same_key key m.key) to invalidations (λ k d less hit. most k d less) in
        omega (arith, own, old, top, forward)
    upto key false known = (let own = is key false known in let old = low key in omega (arith, own, old, forward))

    -- a copy below the last change before is outdated
    since : (key : KeyShape) (commit : ℕ) → has_copy later key commit ≡ true → commit < change_of mid key → is_outdated key commit journal to ≡ true
    since key commit held less =
        let same = (stands key (active-held later key commit held)).0 in
        is_outdated-later key commit journal front to forward (sym (have.exact key commit (were key commit held)) ∙ lt-ltb commit (change_of changes key) (omega (arith, less, same)))

    -- and one below the commit of an invalidation
    by_invalidation : (key : KeyShape) (commit : ℕ) → has_copy later key commit ≡ true → commit < raised_by key invalidations → is_outdated key commit journal to ≡ true
    by_invalidation key commit held less =
        let there = any-above (λ (m : Invalidation). m.commit) (λ (m : Invalidation). same_key key m.key) commit invalidations ∙ lt-ltb commit (raised_by key invalidations) less in
        let f = found-in (λ (m : Invalidation). same_key key m.key && nat_lt commit m.commit) invalidations there in
        let m = f.0 in
        let parts = and_parts (same_key key m.key) (nat_lt commit m.commit) f.1 in
        let before = ltb-true commit m.commit parts.1 in
        let some = untils key commit held in
        let more = below-held copies key commit m.commit (were key commit held) before in
        let does = invalidation-parts journal front to copies invalidations are key m.commit (omega (arith, some, more)) (f.2 (is_invalidation key m.commit) (and_from (same_key key m.key) (m.commit == m.commit) parts.0 (eq-eqb m.commit m.commit refl))) in
        is_outdated-by key commit journal to m.commit before does.1 does.2

    below : (key : KeyShape) (commit : ℕ) → has_copy later key commit ≡ true → (b : Bool) → is_known mid key ≡ b → nat_lt commit (change_of raised key) ≡ true → is_outdated key commit journal to ≡ true
    below key commit held true known h =
        let own = is key true known in
        let less = ltb-true commit (change_of raised key) h in
        elim (cases_lt commit (change_of mid key)) [
          | inl old ↦ since key commit held old
          | inr new ↦ by_invalidation key commit held (omega (arith, own, less, new))
        ]
    below key commit held false known h =
        let own = is key false known in
        let less = ltb-true commit (change_of raised key) h in
        since key commit held (omega (arith, own, less))

    -- no entry is lowered
    no_less : (key : KeyShape) (b : Bool) → is_known mid key ≡ b → change_of mid key ≤ change_of raised key
    no_less key true known = (let own = is key true known in omega (arith, own))
    no_less key false known = (let own = is key false known in omega (arith, own))

    outdated : (key : KeyShape) (commit : ℕ) → has_copy later key commit ≡ true → is_outdated key commit journal to ≡ true → nat_lt commit (change_of raised key) ≡ true
    outdated key commit held out =
        let before = were key commit held in
        let stand = stands key (active-held later key commit held) in
        let same = stand.0 in
        elim (cases_Bool (is_outdated key commit journal front)) [
          | inl was ↦ (
              let less = ltb-true commit (change_of changes key) (have.exact key commit before ∙ was) in
              let more = no_less key (is_known mid key) refl in
              lt-ltb commit (change_of raised key) (omega (arith, less, same, more)))
          | inr new ↦ (
              let step = newly-changed key commit journal front to new out in
              let n = step.0 in
              let after = step.3 in
              let some = untils key commit held in
              let more = below-held copies key commit n before after in
              let there = invalidation-there journal front to copies invalidations are key n (omega (arith, some, more)) step.1 step.2 step.4 in
              let f = found-in (is_invalidation key n) invalidations there in
              let m = f.0 in
              let parts = and_parts (same_key key m.key) (m.commit == n) f.1 in
              let at = eqb-true m.commit n parts.1 in
              let known = stand.1 (active-held copies key commit before) (f.2 (λ x. same_key key x.key) parts.0) in
              let above = ltb-true commit (raised_by key invalidations) (sym (any-above (λ (x : Invalidation). x.commit) (λ (x : Invalidation). same_key key x.key) commit invalidations)
              ∙ f.2 (λ x. same_key key x.key && nat_lt commit x.commit) (and_from (same_key key m.key) (nat_lt commit m.commit) parts.0 (lt-ltb commit m.commit (omega (arith, after, at))))) in
              let own = is key true known in
              lt-ltb commit (change_of raised key) (omega (arith, own, above)))
        ]
