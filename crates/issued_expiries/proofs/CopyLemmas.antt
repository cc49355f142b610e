-- The copies of one key.
use Rattle.std.proofs.Common.{◌≡◌, ◌⊎◌, zero, suc, ℕ, ◌+◌, ◌-◌, ◌*◌, ◌<◌, ◌≤◌, ◌↔◌, max, cond, leb, ltb, ◌&&◌, Bool, true, false, List, [], ◌∷◌, ◌++◌, length, take, drop, get_or, filter, Result, Ok, Err, IfOk, IfErr, MatchResult, refl, sym, ap, ◌∙◌, subst, arith, inl, inr}
use Rattle.std.specs.List.{insert}
use Rattle.std.specs.Ordering.{nat_cmp}
use Rattle.std.specs.List.Sorted.{IsBinarySearchResult, IsNonDecreasingBy}
use Rattle.std.proofs.lemmas.Bool.{cases_Bool, cases_eq, cases_lt, cond-true, cond-false, ltb-true, lt-ltb, le-ltb, leb-true, le-leb}
use Rattle.std.proofs.lemmas.List.Edits.{length-insert, get_or-insert_below, get_or-insert_at, get_or-insert_above}
use Rattle.std.proofs.lemmas.List.Sorted.{IsNonDecreasingBy-from_default, searched}
use Rattle.std.proofs.lemmas.List.{get_or_default}
use Rattle.std.proofs.Math.Seq.{take-append_seam}
use Rattle.issued_expiries.specs.Maxima.{IsMaxima, IsAtMost}
use Rattle.issued_expiries.specs.Copies.{is_between}
use Rattle.issued_expiries.specs.KeyCopies.{KeptCopies, HasSpace, greatest, is_later, paired, IsRising, IsIndexFor, IsOver}

-- ---- rising commits

rising_upto : (xs : List ℕ) → IsRising xs → (i j : ℕ) → i ≤ j → j < length xs → get_or xs i 0 ≤ get_or xs j 0
rising_upto xs rising i j order low =
    elim (cases_lt i j) [
      | inl less ↦ (let h = rising i j less low in omega (arith, h))
      | inr same ↦ (let e : i ≡ j = omega arith in subst (λ (k : ℕ). get_or xs i 0 ≤ get_or xs k 0) e (omega arith))
    ]

pub non_decreasing : (xs : List ℕ) → IsRising xs → IsNonDecreasingBy (λ (n : ℕ). n) xs
non_decreasing xs rising = IsNonDecreasingBy-from_default (λ (n : ℕ). n) xs 0 (rising_upto xs rising)

found_at : (xs : List ℕ) (x : ℕ) (r : Result ℕ ℕ) →
    MatchResult r (λ i. (i < length xs) × (get_or xs i 0 ≡ x)) (λ i. (i ≤ length xs) × ((k : ℕ) → k < i → get_or xs k 0 < x) × ((k : ℕ) → i ≤ k → k < length xs → x < get_or xs k 0)) →
    IfOk r (λ i. (i < length xs) × (get_or xs i 0 ≡ x)) × IfErr r (IsIndexFor x xs)
found_at xs x (Ok i) h = (h, tt)
found_at xs x (Err i) h = (tt, record { within = h.0; below = h.1; above = h.2 })

pub found_index : (xs : List ℕ) (x : ℕ) (r : Result ℕ ℕ) → IsBinarySearchResult (λ y. nat_cmp y x) xs r → IsRising xs → IfOk r (λ i. (i < length xs) × (get_or xs i 0 ≡ x))
found_index xs x r found rising = (found_at xs x r (searched xs x r found (rising_upto xs rising))).0

pub absent_index : (xs : List ℕ) (x : ℕ) (r : Result ℕ ℕ) → IsBinarySearchResult (λ y. nat_cmp y x) xs r → IsRising xs → IfErr r (IsIndexFor x xs)
absent_index xs x r found rising = (found_at xs x r (searched xs x r found (rising_upto xs rising))).1

-- ---- the greatest until

-- numbers with the same upper bounds are equal
pub same_bounds : (a b : ℕ) → ((n : ℕ) → (a ≤ n → b ≤ n) × (b ≤ n → a ≤ n)) → a ≡ b
same_bounds a b same =
    let from = (same a).0 (omega arith) in
    let to = (same b).1 (omega arith) in
    omega (arith, from, to)

-- the untils of the commits that pass a test are at most n
abbrev pub AreAtMost : (ℕ → Bool) → List ℕ → List ℕ → ℕ → ℕ → Type 0
AreAtMost test commits tree start n = (i : ℕ) → i < length commits → test (get_or commits i 0) ≡ true → get_or tree (start + i) 0 ≤ n

-- a choice is at most n where its parts are
choice_most : (b : Bool) (u g n : ℕ) → (b ≡ true → u ≤ n) → g ≤ n → cond b (max u g) g ≤ n
choice_most true u g n first rest = (let f = first refl in omega (arith, f))
choice_most false u g n first rest = rest

choice_rest : (b : Bool) (u g n : ℕ) → cond b (max u g) g ≤ n → g ≤ n
choice_rest true u g n h = omega arith
choice_rest false u g n h = h

choice_first : (b : Bool) (u g n : ℕ) → cond b (max u g) g ≤ n → b ≡ true → u ≤ n
choice_first true u g n h e = omega arith
choice_first false u g n h e = absurd (let f = e in cc)

pub greatest_within : (test : ℕ → Bool) (commits tree : List ℕ) (start n : ℕ) → AreAtMost test commits tree start n → greatest test (paired commits tree start) ≤ n
greatest_within test [] tree start n all = omega arith
greatest_within test (x ∷ xs) tree start n all =
    choice_most (test x) (get_or tree start 0) (greatest test (paired xs tree (start + 1))) n
    (λ e. subst (λ (k : ℕ). get_or tree k 0 ≤ n) (omega arith) (all 0 (omega arith) e))
    (greatest_within test xs tree (start + 1) n (λ i low e. subst (λ (k : ℕ). get_or tree k 0 ≤ n) (omega arith) (all (suc i) (omega (arith, low)) e)))

pub within_greatest : (test : ℕ → Bool) (commits tree : List ℕ) (start n : ℕ) → greatest test (paired commits tree start) ≤ n → AreAtMost test commits tree start n
within_greatest test [] tree start n most i low e = absurd (omega (arith, low))
within_greatest test (x ∷ xs) tree start n most zero low e =
    subst (λ (k : ℕ). get_or tree k 0 ≤ n) (omega arith) (choice_first (test x) (get_or tree start 0) (greatest test (paired xs tree (start + 1))) n most e)
within_greatest test (x ∷ xs) tree start n most (suc i) low e =
    subst (λ (k : ℕ). get_or tree k 0 ≤ n) (omega arith)
    (within_greatest test xs tree (start + 1) n (choice_rest (test x) (get_or tree start 0) (greatest test (paired xs tree (start + 1))) n most) i (omega (arith, low)) e)

pub length-paired : (commits tree : List ℕ) (start : ℕ) → length (paired commits tree start) ≡ length commits
length-paired [] tree start = refl
length-paired (x ∷ xs) tree start = ap suc (length-paired xs tree (start + 1))

-- ---- a range of commits

both_true : (a b : Bool) → (a && b) ≡ true → (a ≡ true) × (b ≡ true)
both_true true true h = (refl, refl)
both_true true false h = absurd (let e = h in cc)
both_true false b h = absurd (let e = h in cc)

-- the greatest until in a range of commits, from that in the range of their indexes
pub greatest_of_range : (commits tree : List ℕ) (capacity from below first end result : ℕ) → IsOver capacity commits tree →
    first ≤ length commits → ((i : ℕ) → i < first → get_or commits i 0 < from) → ((i : ℕ) → first ≤ i → i < length commits → from ≤ get_or commits i 0) →
    end ≤ length commits → ((i : ℕ) → i < end → get_or commits i 0 < below) → ((i : ℕ) → end ≤ i → i < length commits → below ≤ get_or commits i 0) →
    ((n : ℕ) → IsAtMost tree (capacity + first) (capacity + end) n ↔ (result ≤ n)) → result ≡ greatest (is_between from below) (paired commits tree capacity)
greatest_of_range commits tree capacity from below first end result over first_within before at end_within under past bound =
    same_bounds result (greatest (is_between from below) (paired commits tree capacity)) (λ n. (
      λ most. greatest_within (is_between from below) commits tree capacity n (λ i low passes. (
          let parts = both_true (leb from (get_or commits i 0)) (ltb (get_or commits i 0) below) passes in
          let not_before : first ≤ i = elim (cases_lt i first) [
            | inl early ↦ absurd (let b = before i early in let l = leb-true from (get_or commits i 0) parts.0 in omega (arith, b, l))
            | inr late ↦ late
          ] in
          let not_past : i < end = elim (cases_lt i end) [
            | inl early ↦ early
            | inr late ↦ absurd (let b = past i late low in let l = ltb-true (get_or commits i 0) below parts.1 in omega (arith, b, l))
          ] in
          (bound n).1 most (capacity + i) (omega (arith, not_before)) (omega (arith, not_past)))),
      λ most. (bound n).0 (λ j from_j below_j. (
          let i_is : (i : ℕ) × (j ≡ capacity + i) = offset capacity first j from_j in
          let low : i_is.0 < length commits = (let e = i_is.1 in omega (arith, e, below_j, end_within)) in
          let here = within_greatest (is_between from below) commits tree capacity n most i_is.0 low
          (both_tests (leb from (get_or commits i_is.0 0)) (ltb (get_or commits i_is.0 0) below)
          (le-leb from (get_or commits i_is.0 0) (at i_is.0 (let e = i_is.1 in omega (arith, e, from_j)) low))
          (lt-ltb (get_or commits i_is.0 0) below (under i_is.0 (let e = i_is.1 in omega (arith, e, below_j))))) in
          subst (λ (k : ℕ). get_or tree k 0 ≤ n) (sym i_is.1) here)),
    ))
  where
    offset : (capacity first j : ℕ) → capacity + first ≤ j → (i : ℕ) × (j ≡ capacity + i)
    offset capacity first j from = (j - capacity, omega arith)

    both_tests : (a b : Bool) → a ≡ true → b ≡ true → (a && b) ≡ true
    both_tests a b p q = rw p q

-- the same, of what was lent
pub greatest_read : (commits tree first_commits end_commits lent : List ℕ) (capacity from below first end result : ℕ) → IsOver capacity commits tree →
    first_commits ≡ commits → end_commits ≡ commits → lent ≡ tree →
    first ≤ length first_commits → ((i : ℕ) → i < first → get_or first_commits i 0 < from) → ((i : ℕ) → first ≤ i → i < length first_commits → from ≤ get_or first_commits i 0) →
    end ≤ length end_commits → ((i : ℕ) → i < end → get_or end_commits i 0 < below) → ((i : ℕ) → end ≤ i → i < length end_commits → below ≤ get_or end_commits i 0) →
    ((n : ℕ) → IsAtMost lent (capacity + first) (capacity + end) n ↔ (result ≤ n)) → result ≡ greatest (is_between from below) (paired commits tree capacity)
greatest_read commits tree first_commits end_commits lent capacity from below first end result over p q r a1 a2 a3 b1 b2 b3 bound =
    greatest_of_range commits tree capacity from below first end result over
    (subst (λ (xs : List ℕ). first ≤ length xs) p a1)
    (subst (λ (xs : List ℕ). (i : ℕ) → i < first → get_or xs i 0 < from) p a2)
    (subst (λ (xs : List ℕ). (i : ℕ) → first ≤ i → i < length xs → from ≤ get_or xs i 0) p a3)
    (subst (λ (xs : List ℕ). end ≤ length xs) q b1)
    (subst (λ (xs : List ℕ). (i : ℕ) → i < end → get_or xs i 0 < below) q b2)
    (subst (λ (xs : List ℕ). (i : ℕ) → end ≤ i → i < length xs → below ≤ get_or xs i 0) q b3)
    (subst (λ (xs : List ℕ). (n : ℕ) → IsAtMost xs (capacity + first) (capacity + end) n ↔ (result ≤ n)) r bound)

-- ---- one copy more

-- a vector behind a write of its whole
pub whole_written : {X : Type 0} (new items : List X) (len : ℕ) → length new ≡ length items → len ≡ length items → take len (new ++ drop (length new) items) ≡ new
whole_written new items len same full = ap (λ n. take n (new ++ drop (length new) items)) (full ∙ sym same) ∙ take-append_seam new (drop (length new) items)

-- the until of a copy, where its commit passes
abbrev pub counted : Bool → ℕ → ℕ
counted passes until = cond passes until 0

counted_most : (b : Bool) (until n : ℕ) → (b ≡ true → until ≤ n) → counted b until ≤ n
counted_most true until n h = h refl
counted_most false until n h = omega arith

most_counted : (b : Bool) (until n : ℕ) → counted b until ≤ n → b ≡ true → until ≤ n
most_counted true until n h e = h
most_counted false until n h e = absurd (let f = e in cc)

-- a maximum is what its bounds say
pub max_of_bounds : (new old more : ℕ) → ((n : ℕ) → (new ≤ n → (old ≤ n) × (more ≤ n)) × (old ≤ n → more ≤ n → new ≤ n)) → new ≡ max old more
max_of_bounds new old more bounds =
    let parts = (bounds new).0 (omega arith) in
    let whole = (bounds (max old more)).1 (omega arith) (omega arith) in
    omega (arith, parts.0, parts.1, whole)

-- an index compared with one that was inserted
three_ways : (index j : ℕ) → (j < index) ⊎ ((j ≡ index) ⊎ ((i : ℕ) × (j ≡ i + 1) × (index ≤ i)))
three_ways index j =
    elim (cases_lt j index) [
      | inl less ↦ inl less
      | inr more ↦ inr (elim (cases_eq j index) [
        | inl same ↦ inl same
        | inr other ↦ inr (j - 1, omega (arith, other), omega (arith, other))
      ])
    ]

-- A copy more.
module _ (commits tree after : List ℕ) (capacity index commit until : ℕ) (over : IsOver capacity commits tree) where
  -- the copy at a commit took the later until
  raised : index < length commits → get_or commits index 0 ≡ commit →
      get_or after (capacity + index) 0 ≡ max (get_or tree (capacity + index) 0) until →
      ((i : ℕ) → length tree ≤ 2 * i → (i ≡ capacity + index → ⊥) → get_or after i 0 ≡ get_or tree i 0) →
      (test : ℕ → Bool) → greatest test (paired commits after capacity) ≡ max (greatest test (paired commits tree capacity)) (counted (test commit) until)
  raised within here written others test =
      max_of_bounds (greatest test (paired commits after capacity)) (greatest test (paired commits tree capacity)) (counted (test commit) until) (λ n. (
        λ most. (
            let all = within_greatest test commits after capacity n most in (
              greatest_within test commits tree capacity n (λ i low passes. (
                  let now = all i low passes in
                  elim (cases_eq i index) [
                    | inl same ↦ (let w = subst (λ (k : ℕ). get_or after (capacity + k) 0 ≡ max (get_or tree (capacity + k) 0) until) (sym same) written in omega (arith, w, now))
                    | inr other ↦ (let s = over.sized in let o = others (capacity + i) (omega (arith, s)) (λ e. other (omega (arith, e))) in omega (arith, o, now))
                  ])),
              counted_most (test commit) until n (λ passes. (
                  let now = all index within (ap test here ∙ passes) in
                  omega (arith, written, now))),
            )),
        λ old more. greatest_within test commits after capacity n (λ i low passes. (
            let was = within_greatest test commits tree capacity n old i low passes in
            elim (cases_eq i index) [
              | inl same ↦ (
                  let w = subst (λ (k : ℕ). get_or after (capacity + k) 0 ≡ max (get_or tree (capacity + k) 0) until) (sym same) written in
                  let u = most_counted (test commit) until n more (ap test (sym here ∙ ap (λ (k : ℕ). get_or commits k 0) (sym same)) ∙ passes) in
                  omega (arith, w, was, u))
              | inr other ↦ (let s = over.sized in let o = others (capacity + i) (omega (arith, s)) (λ e. other (omega (arith, e))) in omega (arith, o, was))
            ])),
      ))

  -- a copy at a new commit is among the others
  inserted : index ≤ length commits →
      get_or after (capacity + index) 0 ≡ until →
      ((i : ℕ) → capacity + index ≤ i → i < capacity + length commits → get_or after (i + 1) 0 ≡ get_or tree i 0) →
      ((i : ℕ) → length tree ≤ 2 * i → i < capacity + index → get_or after i 0 ≡ get_or tree i 0) →
      (test : ℕ → Bool) → greatest test (paired (insert commits index commit) after capacity) ≡ max (greatest test (paired commits tree capacity)) (counted (test commit) until)
  inserted within written moved before test =
      let s = over.sized in
      let long = length-insert commits index commit within in
      max_of_bounds (greatest test (paired (insert commits index commit) after capacity)) (greatest test (paired commits tree capacity)) (counted (test commit) until) (λ n. (
        λ most. (
            let all = within_greatest test (insert commits index commit) after capacity n most in (
              greatest_within test commits tree capacity n (λ i low passes. elim (cases_lt i index) [
                | inl early ↦ (
                    let at = get_or-insert_below commits index commit 0 i early within in
                    let b = before (capacity + i) (omega (arith, s)) (omega (arith, early)) in
                    let now = all i (omega (arith, long, low)) (ap test at ∙ passes) in
                    omega (arith, b, now))
                | inr late ↦ (
                    let at = get_or-insert_above commits index commit 0 i late within in
                    let m = moved (capacity + i) (omega (arith, late)) (omega (arith, low)) in
                    let now = subst (λ (k : ℕ). get_or after k 0 ≤ n) (omega arith) (all (i + 1) (omega (arith, long, low)) (ap test at ∙ passes)) in
                    let there : get_or after (capacity + i + 1) 0 ≤ n = now in
                    omega (arith, m, there))
              ]),
              counted_most (test commit) until n (λ passes. (
                  let at = get_or-insert_at commits index commit 0 within in
                  let now = all index (omega (arith, long, within)) (ap test at ∙ passes) in
                  omega (arith, written, now))),
            )),
        λ old more. greatest_within test (insert commits index commit) after capacity n (λ j low passes. elim (three_ways index j) [
          | inl early ↦ (
              let at = get_or-insert_below commits index commit 0 j early within in
              let b = before (capacity + j) (omega (arith, s)) (omega (arith, early)) in
              let was = within_greatest test commits tree capacity n old j (omega (arith, early, within)) (ap test (sym at) ∙ passes) in
              omega (arith, b, was))
          | inr (inl same) ↦ (
              let at = get_or-insert_at commits index commit 0 within in
              let p : test (get_or (insert commits index commit) index 0) ≡ true = subst (λ (k : ℕ). test (get_or (insert commits index commit) k 0) ≡ true) same passes in
              let u = most_counted (test commit) until n more (ap test (sym at) ∙ p) in
              subst (λ (k : ℕ). get_or after (capacity + k) 0 ≤ n) (sym same) (omega (arith, written, u)))
          | inr (inr (i, is, late)) ↦ (
              let at = get_or-insert_above commits index commit 0 i late within in
              let p : test (get_or (insert commits index commit) (i + 1) 0) ≡ true = subst (λ (k : ℕ). test (get_or (insert commits index commit) k 0) ≡ true) is passes in
              let inside : i < length commits = omega (arith, long, low, is) in
              let m = moved (capacity + i) (omega (arith, late)) (omega (arith, inside)) in
              let was = within_greatest test commits tree capacity n old i inside (ap test (sym at) ∙ p) in
              subst (λ (k : ℕ). get_or after k 0 ≤ n) (omega (arith, is)) (let there : get_or after (capacity + i + 1) 0 ≤ n = omega (arith, m, was) in there))
        ]),
      ))

-- commits rise with one more at its index
pub rising_with : (commits : List ℕ) (index commit : ℕ) → IsRising commits → IsIndexFor commit commits index → IsRising (insert commits index commit)
rising_with commits index commit rising fits i j order low =
    let within = fits.within in
    let long = length-insert commits index commit within in
    elim (three_ways index i) [
      | inl early ↦ (
          let a = get_or-insert_below commits index commit 0 i early within in
          elim (three_ways index j) [
            | inl j_early ↦ (let b = get_or-insert_below commits index commit 0 j j_early within in let r = rising i j order (omega (arith, j_early, within)) in omega (arith, a, b, r))
            | inr (inl same) ↦ (
                let b = get_or-insert_at commits index commit 0 within in
                let r = fits.below i early in
                subst (λ (k : ℕ). get_or (insert commits index commit) i 0 < get_or (insert commits index commit) k 0) (sym same) (omega (arith, a, b, r)))
            | inr (inr (k, is, late)) ↦ (
                let b = get_or-insert_above commits index commit 0 k late within in
                let r = rising i k (omega (arith, early, late)) (omega (arith, long, low, is)) in
                subst (λ (m : ℕ). get_or (insert commits index commit) i 0 < get_or (insert commits index commit) m 0) (sym is) (omega (arith, a, b, r)))
          ])
      | inr (inl i_same) ↦ (
          let a = get_or-insert_at commits index commit 0 within in
          elim (three_ways index j) [
            | inl j_early ↦ absurd (omega (arith, j_early, i_same, order))
            | inr (inl same) ↦ absurd (omega (arith, same, i_same, order))
            | inr (inr (k, is, late)) ↦ (
                let b = get_or-insert_above commits index commit 0 k late within in
                let r = fits.above k late (omega (arith, long, low, is)) in
                subst (λ (m : ℕ). get_or (insert commits index commit) m 0 < get_or (insert commits index commit) j 0) (sym i_same)
                (subst (λ (m : ℕ). get_or (insert commits index commit) index 0 < get_or (insert commits index commit) m 0) (sym is) (omega (arith, a, b, r))))
          ])
      | inr (inr (h, i_is, i_late)) ↦ (
          let a = get_or-insert_above commits index commit 0 h i_late within in
          elim (three_ways index j) [
            | inl j_early ↦ absurd (omega (arith, j_early, i_is, i_late, order))
            | inr (inl same) ↦ absurd (omega (arith, same, i_is, i_late, order))
            | inr (inr (k, is, late)) ↦ (
                let b = get_or-insert_above commits index commit 0 k late within in
                let r = rising h k (omega (arith, i_is, is, order)) (omega (arith, long, low, is)) in
                subst (λ (m : ℕ). get_or (insert commits index commit) m 0 < get_or (insert commits index commit) j 0) (sym i_is)
                (subst (λ (m : ℕ). get_or (insert commits index commit) (h + 1) 0 < get_or (insert commits index commit) m 0) (sym is) (omega (arith, a, b, r))))
          ])
    ]

-- The same of a vector that was lent and written as a whole.
module _ (commits tree lent after : List ℕ) (len capacity index commit : ℕ) (over : IsOver capacity commits tree)
    (value : lent ≡ tree) (long : length lent ≡ len) (same : length after ≡ length lent) where
  whole : take len (after ++ drop (length after) tree) ≡ after
  whole = whole_written after tree len (same ∙ ap length value) (sym long ∙ ap length value)

  pub raised_written : (until before now : ℕ) → index < length commits → get_or commits index 0 ≡ commit →
      before ≡ get_or tree (capacity + index) before → now ≡ max before until → get_or after (capacity + index) 0 ≡ now →
      ((i : ℕ) → length lent ≤ 2 * i → (i ≡ capacity + index → ⊥) → get_or after i 0 ≡ get_or lent i 0) →
      (test : ℕ → Bool) → greatest test (paired commits (take len (after ++ drop (length after) tree)) capacity) ≡ max (greatest test (paired commits tree capacity)) (counted (test commit) until)
  raised_written until before now within here was is written others test =
      ap (λ (xs : List ℕ). greatest test (paired commits xs capacity)) whole
      ∙ raised commits tree after capacity index commit until over within here (written ∙ is ∙ ap (λ (n : ℕ). max n until) (was ∙ get_or_default tree (capacity + index) before 0 (let s = over.sized in let f = over.fits in omega (arith, s, f, within))))
      (subst (λ (xs : List ℕ). (i : ℕ) → length xs ≤ 2 * i → (i ≡ capacity + index → ⊥) → get_or after i 0 ≡ get_or xs i 0) value others) test

  -- at a new commit
  module _ (commits_after : List ℕ) (fits : IsIndexFor commit commits index) (put : commits_after ≡ insert commits index commit) where
    pub inserted_written : (until end : ℕ) → end ≡ capacity + length commits → get_or after (capacity + index) 0 ≡ until →
        ((i : ℕ) → capacity + index ≤ i → i < end → get_or after (i + 1) 0 ≡ get_or lent i 0) →
        ((i : ℕ) → length lent ≤ 2 * i → i < capacity + index → get_or after i 0 ≡ get_or lent i 0) →
        (test : ℕ → Bool) → greatest test (paired commits_after (take len (after ++ drop (length after) tree)) capacity) ≡ max (greatest test (paired commits tree capacity)) (counted (test commit) until)
    inserted_written until end end_is written moved before test =
        ap (λ (xs : List ℕ). greatest test (paired commits_after xs capacity)) whole
        ∙ ap (λ (cs : List ℕ). greatest test (paired cs after capacity)) put
        ∙ inserted commits tree after capacity index commit until over fits.within written
        (subst (λ (xs : List ℕ). (i : ℕ) → capacity + index ≤ i → i < capacity + length commits → get_or after (i + 1) 0 ≡ get_or xs i 0) value
        (subst (λ (m : ℕ). (i : ℕ) → capacity + index ≤ i → i < m → get_or after (i + 1) 0 ≡ get_or lent i 0) end_is moved))
        (subst (λ (xs : List ℕ). (i : ℕ) → length xs ≤ 2 * i → i < capacity + index → get_or after i 0 ≡ get_or xs i 0) value before) test

    -- the commits still have their numbers in the row
    pub over_inserted : length commits < capacity → IsMaxima after → IsOver capacity commits_after (take len (after ++ drop (length after) tree))
    over_inserted space maxima =
        let all : IsOver capacity (insert commits index commit) after = record {
          maxima = maxima;
          sized = same ∙ ap length value ∙ over.sized;
          rising = rising_with commits index commit over.rising fits;
          fits = (let n = length-insert commits index commit fits.within in omega (arith, n, space));
        } in
        subst (λ (cs : List ℕ). IsOver capacity cs (take len (after ++ drop (length after) tree))) (sym put)
        (subst (λ (xs : List ℕ). IsOver capacity (insert commits index commit) xs) (sym whole) all)

-- What the copies of commits say of these.
module _ (commits tree : List ℕ) (capacity : ℕ) (kept : KeptCopies) (is : record { copies = paired commits tree capacity; capacity = capacity } ≡ kept) where
  as_kept : length commits ≡ length kept.copies
  as_kept =
      let long = length-paired commits tree capacity in
      let view = ap (λ (k : KeptCopies). length k.copies) is in
      omega (arith, long, view)

  -- space for copies is space for commits
  pub space_of : HasSpace kept → length commits < capacity
  space_of space =
      let long = length-paired commits tree capacity in
      let here = subst (λ (k : KeptCopies). HasSpace k) (sym is) space in
      omega (arith, long, here)

  -- as many copies as before
  pub as_many : (after : List ℕ) → length (paired commits after capacity) ≤ length kept.copies + 1
  as_many after = let new = length-paired commits after capacity in omega (arith, new, as_kept)

  -- one more
  pub one_more : (commits_after after : List ℕ) (index commit : ℕ) → index ≤ length commits → commits_after ≡ insert commits index commit → length (paired commits_after after capacity) ≤ length kept.copies + 1
  one_more commits_after after index commit within put =
      let new = length-paired commits_after after capacity in
      let more = length-insert commits index commit within in
      let put_len = ap length put in
      omega (arith, new, as_kept, more, put_len)

-- ---- what expires later than a clock

-- a number, where it is above the clock
abbrev pub above : ℕ → ℕ → ℕ
above clock n = cond (ltb clock n) n 0

pub above_is : (clock n : ℕ) → clock < n → above clock n ≡ n
above_is clock n late = cond-true (ltb clock n) n 0 (lt-ltb clock n late)

pub above_none : (clock n : ℕ) → n ≤ clock → above clock n ≡ 0
above_none clock n past = cond-false (ltb clock n) n 0 (le-ltb clock n past)

above_max : (clock u g : ℕ) → clock < u → max u (above clock g) ≡ above clock (max u g)
above_max clock u g late =
    let whole = above_is clock (max u g) (omega arith) in
    elim (cases_lt clock g) [
      | inl more ↦ (let a = above_is clock g more in omega (arith, whole, a))
      | inr past ↦ (let a = above_none clock g past in omega (arith, whole, a))
    ]

above_rest : (clock u g : ℕ) → u ≤ clock → above clock g ≡ above clock (max u g)
above_rest clock u g past =
    elim (cases_lt clock g) [
      | inl more ↦ ap (above clock) (let e : g ≡ max u g = omega arith in e)
      | inr less ↦ (let a = above_none clock g less in let b = above_none clock (max u g) (omega arith) in omega (arith, a, b))
    ]

-- the greatest until of what expires later
pub greatest_later : (test : ℕ → Bool) (clock : ℕ) (copies : List (ℕ × ℕ)) → greatest test (filter (is_later clock) copies) ≡ above clock (greatest test copies)
greatest_later test clock [] = sym (above_none clock 0 (omega arith))
greatest_later test clock (x ∷ xs) =
    elim (cases_lt clock x.1) [
      | inl late ↦ (rw (lt-ltb clock x.1 late) (elim (cases_Bool (test x.0)) [
        | inl passes ↦ rw passes (rw (greatest_later test clock xs) (above_max clock x.1 (greatest test xs) late))
        | inr fails ↦ rw fails (greatest_later test clock xs)
      ]))
      | inr past ↦ (rw (le-ltb clock x.1 past) (elim (cases_Bool (test x.0)) [
        | inl passes ↦ rw passes (greatest_later test clock xs ∙ above_rest clock x.1 (greatest test xs) past)
        | inr fails ↦ rw fails (greatest_later test clock xs)
      ]))
    ]

-- a greatest until above the clock stays when what is not later is left out
pub last_stays : (clock until old new : ℕ) → clock < max until old → above clock new ≡ above clock old → max until new ≡ max until old
last_stays clock until old new late same =
    elim (cases_lt clock old) [
      | inl more ↦ (
          let a = above_is clock old more in
          elim (cases_lt clock new) [
            | inl new_more ↦ (let b = above_is clock new new_more in omega (arith, a, b, same))
            | inr new_less ↦ (let b = above_none clock new new_less in omega (arith, a, b, same, more))
          ])
      | inr less ↦ (
          let a = above_none clock old less in
          elim (cases_lt clock new) [
            | inl new_more ↦ (let b = above_is clock new new_more in omega (arith, a, b, same, new_more))
            | inr new_less ↦ omega (arith, late, less, new_less)
          ])
    ]

pub last_kept : (clock until : ℕ) (old new : List (ℕ × ℕ)) → clock < max until (greatest (λ _. true) old) → filter (is_later clock) new ≡ filter (is_later clock) old →
    max until (greatest (λ _. true) new) ≡ max until (greatest (λ _. true) old)
last_kept clock until old new late same =
    last_stays clock until (greatest (λ _. true) old) (greatest (λ _. true) new) late
    (sym (greatest_later (λ _. true) clock new) ∙ ap (greatest (λ _. true)) same ∙ greatest_later (λ _. true) clock old)
