-- What is kept of a record determines its documents.
use Rattle.std.proofs.Common.{◌≡◌, ℕ, zero, suc, ◌+◌, ◌-◌, ◌<◌, ◌≤◌, Bool, true, false, List, [], ◌∷◌, ◌++◌, Option, Some, None, length, filter, nat_le, option_map, option_and_then, All, get_or, slice_get, take, drop, refl, sym, ap, ◌∙◌, subst, arith, inl, inr}
use Rattle.std.proofs.lemmas.Bool.{cases_Bool, le-leb, lt-leb}
use Rattle.std.proofs.lemmas.Option.{get_or_from_slice_get, slice_get_within}
use Rattle.std.proofs.lemmas.List.{take_all, get_or-take, length-take}
use Rattle.std.proofs.lemmas.List.Elements.{filter-append, All-append, All-filter}
use Rattle.std.proofs.lemmas.List.Sorted.{IsNonDecreasingBy-push, IsNonDecreasingBy-short}
use Rattle.std.specs.List.Sorted.{IsNonDecreasing, IsPartitionPoint}
use mathlib.Core.List.{append-nil}
use Rattle.commit_book.specs.declared.change.Change.{Change}
use Rattle.commit_book.specs.Journal.{is_of, document_after, document_at}
use Rattle.q_doc.specs.Tree.{Tree}
use Rattle.commit_book.specs.Index.{commits_after, commits_of, last_of, version_of, document_in, document_over, AreCommits}

-- ---- the last of a list

pub last-append : (xs : List ℕ) (x : ℕ) → last_of (xs ++ x ∷ []) ≡ Some x
last-append [] x = refl
last-append (y ∷ []) x = refl
last-append (y ∷ z ∷ xs) x = last-append (z ∷ xs) x

pub last_at : (xs : List ℕ) (k d : ℕ) → k + 1 ≡ length xs → last_of xs ≡ Some (get_or xs k d)
last_at [] k d end = absurd (omega arith)
last_at (x ∷ []) zero d end = refl
last_at (x ∷ []) (suc k) d end = absurd (omega arith)
last_at (x ∷ y ∷ xs) zero d end = absurd (omega arith)
last_at (x ∷ y ∷ xs) (suc k) d end = last_at (y ∷ xs) k d (omega arith)

-- ---- what is not above a number

-- items that pass up to an index, and none from there on
point_filter : (p : ℕ → Bool) (xs : List ℕ) (k : ℕ) → k ≤ length xs → ((i d : ℕ) → i < k → p (get_or xs i d) ≡ true) → ((i d : ℕ) → k ≤ i → i < length xs → p (get_or xs i d) ≡ false) → filter p xs ≡ take k xs
point_filter p [] zero within before behind = refl
point_filter p [] (suc k) within before behind = absurd (omega arith)
point_filter p (x ∷ xs) zero within before behind =
    let e : p x ≡ false = behind 0 x (omega arith) (omega arith) in
    rw e (point_filter p xs zero (omega arith) (λ i d low. absurd (omega arith)) (λ i d low high. behind (suc i) d (omega arith) (omega arith)))
point_filter p (x ∷ xs) (suc k) within before behind =
    let e : p x ≡ true = before 0 x (omega arith) in
    rw e (ap (λ (l : List ℕ). x ∷ l) (point_filter p xs k (omega arith) (λ i d low. before (suc i) d (omega arith)) (λ i d low high. behind (suc i) d (omega arith) (omega arith))))

-- the last of all is the last that is not above n
pub version_last : (commits : List ℕ) (n last : ℕ) → IsNonDecreasing commits → Some last ≡ slice_get commits (length commits - 1) → last ≤ n → Some last ≡ version_of commits n
version_last commits n last rising at low =
    let inside = slice_get_within commits (length commits - 1) last (sym at) in
    let here : get_or commits (length commits - 1) last ≡ last = get_or_from_slice_get commits (length commits - 1) last last (sym at) in
    let all = point_filter (λ v. nat_le v n) commits (length commits) (omega arith)
    (λ i d in_. le-leb (get_or commits i d) n (let up = rising i (length commits - 1) d (omega arith) (omega arith) in
    let end = get_or_from_slice_get commits (length commits - 1) last d (sym at) in omega (arith, up, end)))
    (λ i d low_ high. absurd (omega arith)) in
    sym (ap last_of (all ∙ take_all (length commits) commits (omega arith)) ∙ last_at commits (length commits - 1) last (omega arith) ∙ ap Some here)

-- none is not above n
pub version_none : (commits : List ℕ) (n k : ℕ) → IsPartitionPoint (λ v. nat_le v n ≡ true) (λ v. nat_le v n ≡ false) commits k → k ≡ 0 → None ≡ version_of commits n
version_none commits n k point none =
    sym (ap last_of (point_filter (λ v. nat_le v n) commits 0 (omega arith) (λ i d low. absurd (omega arith)) (λ i d low high. point.1 i d (omega arith) high)))

-- the last before the first that is above n
pub version_before : (commits : List ℕ) (n k d : ℕ) → IsPartitionPoint (λ v. nat_le v n ≡ true) (λ v. nat_le v n ≡ false) commits k → k ≤ length commits → 0 < k → Some (get_or commits (k - 1) d) ≡ version_of commits n
version_before commits n k d point within some =
    let size = length-take k commits in
    sym (
    ap last_of (point_filter (λ v. nat_le v n) commits k within (λ i d low. point.0 i d (omega arith) low) (λ i d low high. point.1 i d low high))
    ∙ last_at (take k commits) (k - 1) d (omega (arith, size))
    ∙ ap Some (get_or-take k commits (k - 1) d (omega arith))
    )

-- what holds of each item holds of the last
last_all : (P : ℕ → Type 0) (xs : List ℕ) (v : ℕ) → Some v ≡ last_of xs → All P xs → P v
last_all P [] v e all = absurd (cc)
last_all P (x ∷ []) v e all = let same : x ≡ v = cc in subst P same (all 0 x (omega arith))
last_all P (x ∷ y ∷ xs) v e all = last_all P (y ∷ xs) v e (λ k d low. all (suc k) d (omega arith))

-- a version is one of the commits
pub version_among : (horizon : ℕ) (rows : List Change) (commits : List ℕ) (n v : ℕ) → AreCommits horizon rows commits → Some v ≡ version_of commits n → (horizon < v) × (v ≤ length rows + horizon)
version_among horizon rows commits n v are e =
    let P : ℕ → Type 0 = λ m. (horizon < m) × (m ≤ length rows + horizon) in
    last_all P (filter (λ m. nat_le m n) commits) v e (All-filter (λ m. nat_le m n) P commits are.within)

module _ (P : ℕ → Type 0) where
  all_one : (x : ℕ) → P x → All P (x ∷ [])
  all_one x p zero d low = p
  all_one x p (suc k) d low = absurd (omega arith)

  all_none : All P []
  all_none k d low = absurd (omega arith)

-- a list all of which passes
filter_kept : (p : ℕ → Bool) (xs : List ℕ) → All (λ x. p x ≡ true) xs → filter p xs ≡ xs
filter_kept p xs all = point_filter p xs (length xs) (omega arith) (λ i d low. all i d low) (λ i d low high. absurd (omega arith)) ∙ take_all (length xs) xs (omega arith)

-- a list none of which passes
filter_cut : (p : ℕ → Bool) (xs : List ℕ) → All (λ x. p x ≡ false) xs → filter p xs ≡ []
filter_cut p xs all = point_filter p xs 0 (omega arith) (λ i d low. absurd (omega arith)) (λ i d low high. all i d high)

-- the row of a commit, and the commit
abbrev pub change_at : ℕ → List Change → Option ℕ → Option (ℕ × Change)
change_at horizon rows commit = option_and_then (λ n. option_map (λ change. (n, change)) (slice_get rows (n - horizon - 1))) commit

-- an item behind the first ones
pub slice_get_drop : {X : Type 0} (xs : List X) (h k : ℕ) → slice_get (drop h xs) k ≡ slice_get xs (k + h)
slice_get_drop xs zero k = (let same : k ≡ k + 0 = omega arith in ap (slice_get xs) same)
slice_get_drop [] (suc h) k = refl
slice_get_drop (x ∷ xs) (suc h) k =
    let next : suc (k + h) ≡ k + suc h = omega arith in
    slice_get_drop xs h k ∙ ap (slice_get (x ∷ xs)) next

-- ---- the commits of a record, and its documents

module _ (horizon : ℕ) (rows : List Change) (collection id : List ℕ) where
  -- its commits among the first n rows
  abbrev first_commits : ℕ → List ℕ
  first_commits n = commits_of horizon rows n collection id

  -- the commit of the next row, where it is of the record
  abbrev next_of : ℕ → List ℕ
  next_of n = commits_after collection id (suc (n + horizon)) (slice_get rows n) []

  commits_more : (n : ℕ) → first_commits (suc n) ≡ first_commits n ++ next_of n
  commits_more n = by (slice_get rows n) (first_commits n)
    where
      by : (change : Option Change) (before : List ℕ) → commits_after collection id (suc (n + horizon)) change before ≡ before ++ commits_after collection id (suc (n + horizon)) change []
      by None before = sym (append-nil before)
      by (Some change) before = elim (cases_Bool (is_of collection id change)) [ inl e ↦ rw e refl | inr e ↦ rw e (sym (append-nil before)) ]

  -- the next one is the next number, and only of a row
  next_is : (P : ℕ → Type 0) (n : ℕ) → (n < length rows → P (suc (n + horizon))) → All P (next_of n)
  next_is P n p = by (slice_get rows n) refl
    where
      by : (change : Option Change) → slice_get rows n ≡ change → All P (commits_after collection id (suc (n + horizon)) change [])
      by None e = all_none P
      by (Some change) e =
          elim (cases_Bool (is_of collection id change)) [
            | inl own ↦ rw own (all_one P (suc (n + horizon)) (p (slice_get_within rows n change e)))
            | inr other ↦ rw other (all_none P)
          ]

  commits_within : (n : ℕ) → All (λ v. (horizon < v) × (v ≤ n + horizon) × (v ≤ length rows + horizon)) (first_commits n)
  commits_within zero = all_none (λ v. (horizon < v) × (v ≤ zero + horizon) × (v ≤ length rows + horizon))
  commits_within (suc n) =
      let P : ℕ → Type 0 = λ v. (horizon < v) × (v ≤ suc n + horizon) × (v ≤ length rows + horizon) in
      subst (All P) (sym (commits_more n))
      (All-append P (first_commits n) (next_of n)
      (λ k d low. let old = commits_within n k d low in (old.0, omega (arith, old.1), old.2))
      (next_is P n (λ low. (omega arith, omega arith, omega arith))))

  commits_rise : (n : ℕ) → IsNonDecreasing (first_commits n)
  commits_rise zero = IsNonDecreasingBy-short (λ v. v) [] (omega arith)
  commits_rise (suc n) = by (slice_get rows n) (commits_rise n)
    where
      by : (change : Option Change) → IsNonDecreasing (first_commits n) → IsNonDecreasing (commits_after collection id (suc (n + horizon)) change (first_commits n))
      by None rising = rising
      by (Some change) rising =
          elim (cases_Bool (is_of collection id change)) [
            | inl e ↦ rw e (IsNonDecreasingBy-push (λ v. v) (first_commits n) (suc (n + horizon)) rising
                (λ d some. let low = commits_within n (length (first_commits n) - 1) d (omega arith) in omega (arith, low.1)))
            | inr e ↦ rw e rising
          ]

  pub are_commits : (n : ℕ) → AreCommits horizon rows (commits_of horizon rows n collection id)
  are_commits n = record {
    rising = commits_rise n;
    within = λ k d low. let at = commits_within n k d low in (at.0, at.2);
  }

  -- of the commits of more rows, those of the first n are those not above n
  commits_upto : (n more : ℕ) → filter (λ v. nat_le v (n + horizon)) (first_commits (more + n)) ≡ first_commits n
  commits_upto n zero =
      let same : 0 + n ≡ n = omega arith in
      ap (λ (m : ℕ). filter (λ v. nat_le v (n + horizon)) (first_commits m)) same
      ∙ filter_kept (λ v. nat_le v (n + horizon)) (first_commits n) (λ k d low. le-leb (get_or (first_commits n) k d) (n + horizon) (commits_within n k d low).1)
  commits_upto n (suc more) =
      let same : suc more + n ≡ suc (more + n) = omega arith in
      ap (λ (m : ℕ). filter (λ v. nat_le v (n + horizon)) (first_commits m)) same
      ∙ ap (filter (λ v. nat_le v (n + horizon))) (commits_more (more + n))
      ∙ filter-append (λ v. nat_le v (n + horizon)) (first_commits (more + n)) (next_of (more + n))
      ∙ ap (λ (xs : List ℕ). filter (λ v. nat_le v (n + horizon)) (first_commits (more + n)) ++ xs)
      (filter_cut (λ v. nat_le v (n + horizon)) (next_of (more + n)) (next_is (λ v. nat_le v (n + horizon) ≡ false) (more + n) (λ low. lt-leb (suc (more + n + horizon)) (n + horizon) (omega arith))))
      ∙ append-nil (filter (λ v. nat_le v (n + horizon)) (first_commits (more + n)))
      ∙ commits_upto n more

  module _ (journal : List Change) (above : rows ≡ drop horizon journal) where
    row_is : (n : ℕ) → slice_get rows n ≡ slice_get journal (n + horizon)
    row_is n = ap (λ (xs : List Change). slice_get xs n) above ∙ slice_get_drop journal horizon n

    document_told : (n : ℕ) → document_over (document_at journal horizon collection id) (change_at horizon rows (last_of (first_commits n))) ≡ document_at journal (n + horizon) collection id
    document_told zero = (let same : horizon ≡ 0 + horizon = omega arith in ap (λ (m : ℕ). document_at journal m collection id) same)
    document_told (suc n) =
        by (slice_get rows n) refl (document_told n)
        ∙ ap (λ (o : Option Change). document_after collection id (suc (n + horizon)) o (document_at journal (n + horizon) collection id)) (row_is n)
        ∙ ap (λ (m : ℕ). document_at journal m collection id) same
      where
        same : suc (n + horizon) ≡ suc n + horizon
        same = omega arith

        by : (change : Option Change) → slice_get rows n ≡ change →
            document_over (document_at journal horizon collection id) (change_at horizon rows (last_of (first_commits n))) ≡ document_at journal (n + horizon) collection id →
            document_over (document_at journal horizon collection id) (change_at horizon rows (last_of (commits_after collection id (suc (n + horizon)) change (first_commits n))))
            ≡ document_after collection id (suc (n + horizon)) change (document_at journal (n + horizon) collection id)
        by None e before = before
        by (Some change) e before =
            elim (cases_Bool (is_of collection id change)) [
              | inl own ↦
                  let index : slice_get rows (suc (n + horizon) - horizon - 1) ≡ Some change = ap (slice_get rows) (omega arith) ∙ e in
                  rw own
                  (ap (λ (o : Option ℕ). document_over (document_at journal horizon collection id) (change_at horizon rows o)) (last-append (first_commits n) (suc (n + horizon)))
                  ∙ ap (λ (o : Option Change). document_over (document_at journal horizon collection id) (option_map (λ c. (suc (n + horizon), c)) o)) index)
              | inr other ↦ rw other before
            ]

    -- the document at a commit, by the base and the commits of all rows
    pub document_found : (n : ℕ) (base : Option (ℕ × Tree)) (commits : List ℕ) → base ≡ document_at journal horizon collection id → commits ≡ commits_of horizon rows (length rows) collection id →
        horizon ≤ n → n ≤ length rows + horizon → document_in horizon rows base commits n ≡ document_at journal n collection id
    document_found n base commits based all kept within =
        let place : n ≡ (n - horizon) + horizon = omega arith in
        let more : length rows ≡ (length rows - (n - horizon)) + (n - horizon) = omega arith in
        let upto : filter (λ v. nat_le v n) commits ≡ first_commits (n - horizon) =
        ap (filter (λ v. nat_le v n)) (all ∙ ap (λ (m : ℕ). first_commits m) more)
        ∙ ap (λ (m : ℕ). filter (λ v. nat_le v m) (first_commits ((length rows - (n - horizon)) + (n - horizon)))) place
        ∙ commits_upto (n - horizon) (length rows - (n - horizon)) in
        ap (λ (b : Option (ℕ × Tree)). document_in horizon rows b commits n) based
        ∙ ap (λ (xs : List ℕ). document_over (document_at journal horizon collection id) (change_at horizon rows (last_of xs))) upto
        ∙ document_told (n - horizon)
        ∙ ap (λ (m : ℕ). document_at journal m collection id) (sym place)

-- the same of commits that are those of a record
pub are_commits_of : (horizon : ℕ) (rows : List Change) (commits collection id : List ℕ) → commits ≡ commits_of horizon rows (length rows) collection id → AreCommits horizon rows commits
are_commits_of horizon rows commits collection id all = subst (AreCommits horizon rows) (sym all) (are_commits horizon rows collection id (length rows))
