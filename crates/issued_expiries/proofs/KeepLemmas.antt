-- The copies that are kept when the expired ones are dropped.
use Rattle.std.proofs.Common.{◌≡◌, ◌⊎◌, zero, suc, ℕ, ◌+◌, ◌-◌, ◌*◌, ◌<◌, ◌≤◌, cond, ltb, Bool, true, false, List, [], ◌∷◌, ◌++◌, length, take, drop, set, get_or, filter, count_by, refl, sym, ap, ◌∙◌, subst, arith, inl, inr, length-append, append-nil}
use Rattle.std.proofs.lemmas.Bool.{cases_Bool, cases_lt, lt-ltb, le-ltb}
use Rattle.std.proofs.lemmas.List.{get_or-set_same, get_or-set_other, get_or_append_left, take_all, get_or-take, get_or-drop}
use Rattle.std.proofs.lemmas.List.Elements.{filter_more}
use Rattle.std.proofs.lemmas.List.Sums.{count_by_more_no, count_by_more_yes, sum_by-take-le, sum_by-cons}
use Rattle.std.proofs.Math.Seq.{get_or-append_seam}
use Rattle.issued_expiries.specs.KeyCopies.{paired, is_later, IsRising}
use Rattle.issued_expiries.proofs.CopyLemmas.{length-paired, whole_written}

-- pairs that read alike
pub paired_alike : (commits xs ys : List ℕ) (p q : ℕ) → ((i : ℕ) → i < length commits → get_or xs (p + i) 0 ≡ get_or ys (q + i) 0) → paired commits xs p ≡ paired commits ys q
paired_alike [] xs ys p q same = refl
paired_alike (c ∷ cs) xs ys p q same =
    let first : get_or xs p 0 ≡ get_or ys q 0 =
    ap (λ (k : ℕ). get_or xs k 0) (let e : p ≡ p + 0 = omega arith in e) ∙ same 0 (omega arith) ∙ ap (λ (k : ℕ). get_or ys k 0) (let e : q + 0 ≡ q = omega arith in e) in
    let rest = paired_alike cs xs ys (p + 1) (q + 1) (λ i low. (
    ap (λ (k : ℕ). get_or xs k 0) (let e : p + 1 + i ≡ p + suc i = omega arith in e) ∙ same (suc i) (omega (arith, low)) ∙ ap (λ (k : ℕ). get_or ys k 0) (let e : q + suc i ≡ q + 1 + i = omega arith in e))) in
    ap (λ (u : ℕ). (c, u) ∷ paired cs xs (p + 1)) first ∙ ap (λ (ps : List (ℕ × ℕ)). (c, get_or ys q 0) ∷ ps) rest

-- one commit more
paired_push : (commits numbers : List ℕ) (start commit : ℕ) → paired (commits ++ commit ∷ []) numbers start ≡ paired commits numbers start ++ (commit, get_or numbers (start + length commits) 0) ∷ []
paired_push [] numbers start commit = ap (λ (k : ℕ). (commit, get_or numbers k 0) ∷ []) (let e : start ≡ start + 0 = omega arith in e)
paired_push (c ∷ cs) numbers start commit =
    ap (λ (ps : List (ℕ × ℕ)). (c, get_or numbers start 0) ∷ ps)
    (paired_push cs numbers (start + 1) commit
    ∙ ap (λ (k : ℕ). paired cs numbers (start + 1) ++ (commit, get_or numbers k 0) ∷ []) (let e : start + 1 + length cs ≡ start + length (c ∷ cs) = omega arith in e))

-- one copy more, whose until is written after the others
kept_push : (kept tree : List ℕ) (start commit until : ℕ) → start + length kept < length tree →
    paired (kept ++ commit ∷ []) (set tree (start + length kept) until) start ≡ paired kept tree start ++ (commit, until) ∷ []
kept_push kept tree start commit until within =
    paired_push kept (set tree (start + length kept) until) start commit
    ∙ ap (λ (ps : List (ℕ × ℕ)). ps ++ (commit, get_or (set tree (start + length kept) until) (start + length kept) 0) ∷ [])
    (paired_alike kept (set tree (start + length kept) until) tree start start (λ i low. get_or-set_other tree (start + length kept) (start + i) until 0 (λ e. omega (arith, e, low))))
    ∙ ap (λ (u : ℕ). paired kept tree start ++ (commit, u) ∷ []) (get_or-set_same tree (start + length kept) until 0 within)

-- the pair at an index
pub get_or-paired : (commits numbers : List ℕ) (start i : ℕ) (d : ℕ × ℕ) → i < length commits → get_or (paired commits numbers start) i d ≡ (get_or commits i 0, get_or numbers (start + i) 0)
get_or-paired [] numbers start i d low = absurd (omega (arith, low))
get_or-paired (c ∷ cs) numbers start zero d low = ap (λ (k : ℕ). (c, get_or numbers k 0)) (let e : start ≡ start + 0 = omega arith in e)
get_or-paired (c ∷ cs) numbers start (suc i) d low =
    get_or-paired cs numbers (start + 1) i d (omega (arith, low))
    ∙ ap (λ (k : ℕ). (get_or cs i 0, get_or numbers k 0)) (let e : start + 1 + i ≡ start + suc i = omega arith in e)

-- the copies kept so far: those of the first i that expire later than the clock
pub record IsKeptUpto (clock : ℕ) (commits untils : List ℕ) (i : ℕ) (kept tree : List ℕ) (start : ℕ) : Type 0 where
  pub copies : paired kept tree start ≡ filter (is_later clock) (take i (paired commits untils 0))
  pub count : length kept ≡ count_by (is_later clock) (take i (paired commits untils 0))
  pub rising : IsRising kept
  pub below : (k j : ℕ) → k < length kept → i ≤ j → j < length commits → get_or kept k 0 < get_or commits j 0

-- an element of a list with one more behind it
pushed_at : (xs : List ℕ) (x k : ℕ) → k < length (xs ++ x ∷ []) → ((k < length xs) × (get_or (xs ++ x ∷ []) k 0 ≡ get_or xs k 0)) ⊎ ((k ≡ length xs) × (get_or (xs ++ x ∷ []) k 0 ≡ x))
pushed_at xs x k low =
    let long = length-append xs (x ∷ []) in
    elim (cases_lt k (length xs)) [
      | inl less ↦ inl (less, get_or_append_left xs (x ∷ []) 0 k less)
      | inr more ↦ (
          let e : k ≡ length xs = omega (arith, long, low, more) in
          inr (e, ap (λ (n : ℕ). get_or (xs ++ x ∷ []) n 0) e ∙ get_or-append_seam xs x [] 0))
    ]

-- numbers rise with a greater one behind them
rising_push : (xs : List ℕ) (x : ℕ) → IsRising xs → ((k : ℕ) → k < length xs → get_or xs k 0 < x) → IsRising (xs ++ x ∷ [])
rising_push xs x rising above i j order low =
    let long = length-append xs (x ∷ []) in
    elim (pushed_at xs x i (omega (arith, order, low))) [
      | inl (i_in, i_is) ↦ elim (pushed_at xs x j low) [
        | inl (j_in, j_is) ↦ (let r = rising i j order j_in in omega (arith, i_is, j_is, r))
        | inr (j_end, j_is) ↦ (let r = above i i_in in omega (arith, i_is, j_is, r))
      ]
      | inr (i_end, i_is) ↦ absurd (omega (arith, i_end, order, low, long))
    ]

-- nothing is kept at first
pub kept_first : (clock : ℕ) (commits untils kept tree : List ℕ) (start : ℕ) → kept ≡ [] → IsKeptUpto clock commits untils 0 kept tree start
kept_first clock commits untils kept tree start empty = subst (λ (xs : List ℕ). IsKeptUpto clock commits untils 0 xs tree start) (sym empty) (record {
  copies = refl;
  count = refl;
  rising = λ i j order low. absurd (omega (arith, low));
  below = λ k j k_low from j_low. absurd (omega (arith, k_low));
})

-- What becomes of the copies kept so far.
module _ {clock : ℕ} {commits untils : List ℕ} {i : ℕ} {kept tree : List ℕ} {start : ℕ} (so_far : IsKeptUpto clock commits untils i kept tree start) where
  abbrev all : List (ℕ × ℕ)
  all = paired commits untils 0

  -- the next copy
  next_is : i < length commits → get_or all i (0, 0) ≡ (get_or commits i 0, get_or untils i 0)
  next_is low = get_or-paired commits untils 0 i (0, 0) low ∙ ap (λ (k : ℕ). (get_or commits i 0, get_or untils k 0)) (let e : 0 + i ≡ i = omega arith in e)

  next_within : i < length commits → i < length all
  next_within low = let long = length-paired commits untils 0 in omega (arith, long, low)

  next_late : i < length commits → clock < get_or untils i 0 → is_later clock (get_or all i (0, 0)) ≡ true
  next_late low late = ap (is_later clock) (next_is low) ∙ lt-ltb clock (get_or untils i 0) late

  next_past : i < length commits → get_or untils i 0 ≤ clock → is_later clock (get_or all i (0, 0)) ≡ false
  next_past low past = ap (is_later clock) (next_is low) ∙ le-ltb clock (get_or untils i 0) past

  -- there is space for one more
  pub kept_space : i < length commits → clock < get_or untils i 0 → length kept < count_by (is_later clock) (paired commits untils 0)
  kept_space low late =
      let more = count_by_more_yes (is_later clock) all i (0, 0) (next_within low) (next_late low late) in
      let most = sum_by-take-le (λ (x : ℕ × ℕ). cond (is_later clock x) 1 0) all (i + 1) in
      let now = so_far.count in
      omega (arith, more, most, now)

  -- a copy that expires later is kept
  keeps_one : IsRising commits → i < length commits → clock < get_or untils i 0 → start + length kept < length tree →
      IsKeptUpto clock commits untils (i + 1) (kept ++ get_or commits i 0 ∷ []) (set tree (start + length kept) (get_or untils i 0)) start
  keeps_one rising low late within = record {
    copies =
        kept_push kept tree start (get_or commits i 0) (get_or untils i 0) within
        ∙ ap (λ (ps : List (ℕ × ℕ)). ps ++ (get_or commits i 0, get_or untils i 0) ∷ []) so_far.copies
        ∙ ap (λ (x : ℕ × ℕ). filter (is_later clock) (take i all) ++ x ∷ []) (sym (next_is low))
        ∙ sym (filter_more (is_later clock) all i (0, 0) (next_within low)
        ∙ ap (λ (b : Bool). filter (is_later clock) (take i all) ++ cond b (get_or all i (0, 0) ∷ []) []) (next_late low late));
    count = (let n = length-append kept (get_or commits i 0 ∷ []) in let m = count_by_more_yes (is_later clock) all i (0, 0) (next_within low) (next_late low late) in let now = so_far.count in omega (arith, n, m, now));
    rising = rising_push kept (get_or commits i 0) so_far.rising (λ k k_in. so_far.below k i k_in (omega arith) low);
    below = λ k j k_low from j_low. elim (pushed_at kept (get_or commits i 0) k k_low) [
      | inl (k_in, k_is) ↦ (let b = so_far.below k j k_in (omega (arith, from)) j_low in omega (arith, k_is, b))
      | inr (k_end, k_is) ↦ (let r = rising i j (omega (arith, from)) j_low in omega (arith, k_is, r))
    ];
  }

  -- one that is expired is not
  keeps_none : i < length commits → get_or untils i 0 ≤ clock → IsKeptUpto clock commits untils (i + 1) kept tree start
  keeps_none low past = record {
    copies = so_far.copies ∙ sym (filter_more (is_later clock) all i (0, 0) (next_within low)
        ∙ ap (λ (b : Bool). filter (is_later clock) (take i all) ++ cond b (get_or all i (0, 0) ∷ []) []) (next_past low past)
        ∙ append-nil (filter (is_later clock) (take i all)));
    count = so_far.count ∙ sym (count_by_more_no (is_later clock) all i (0, 0) (next_within low) (next_past low past));
    rising = so_far.rising;
    below = λ k j k_low from j_low. so_far.below k j k_low (omega (arith, from)) j_low;
  }

  -- the same, as the code leaves it
  pub kept_one : {kept_after tree_after : List ℕ} (len : ℕ) → IsRising commits → i < length commits → clock < get_or untils i 0 → start + length kept < length tree →
      len ≡ length kept → kept_after ≡ kept ++ get_or commits i 0 ∷ [] → tree_after ≡ set tree (start + len) (get_or untils i 0) → IsKeptUpto clock commits untils (i + 1) kept_after tree_after start
  kept_one {kept_after} {tree_after} len rising low late within len_is kept_is tree_is =
      subst (λ (xs : List ℕ). IsKeptUpto clock commits untils (i + 1) xs tree_after start) (sym kept_is)
      (subst (λ (xs : List ℕ). IsKeptUpto clock commits untils (i + 1) (kept ++ get_or commits i 0 ∷ []) xs start) (sym (tree_is ∙ ap (λ (n : ℕ). set tree (start + n) (get_or untils i 0)) len_is))
      (keeps_one rising low late within))

  pub kept_none : {kept_after tree_after : List ℕ} → i < length commits → get_or untils i 0 ≤ clock → kept_after ≡ kept → tree_after ≡ tree → IsKeptUpto clock commits untils (i + 1) kept_after tree_after start
  kept_none {kept_after} {tree_after} low past kept_is tree_is =
      subst (λ (xs : List ℕ). IsKeptUpto clock commits untils (i + 1) xs tree_after start) (sym kept_is)
      (subst (λ (xs : List ℕ). IsKeptUpto clock commits untils (i + 1) kept xs start) (sym tree_is) (keeps_none low past))

  -- all of them
  taken : length commits ≤ i → take i all ≡ all
  taken past = let long = length-paired commits untils 0 in take_all i all (omega (arith, long, past))

  pub kept_last : length commits ≤ i → paired kept tree start ≡ filter (is_later clock) (paired commits untils 0)
  kept_last past = so_far.copies ∙ ap (filter (is_later clock)) (taken past)

  pub kept_count : length commits ≤ i → length kept ≡ count_by (is_later clock) (paired commits untils 0)
  kept_count past = so_far.count ∙ ap (count_by (is_later clock)) (taken past)

-- as many copies expire later as untils are later
pub count_paired : (clock : ℕ) (commits untils numbers : List ℕ) (start : ℕ) → length commits ≡ length untils → ((i : ℕ) → i < length untils → get_or numbers (start + i) 0 ≡ get_or untils i 0) →
    count_by (is_later clock) (paired commits numbers start) ≡ count_by (λ until. ltb clock until) untils
count_paired clock [] [] numbers start same alike = refl
count_paired clock [] (u ∷ us) numbers start same alike = absurd (omega (arith, same))
count_paired clock (c ∷ cs) [] numbers start same alike = absurd (omega (arith, same))
count_paired clock (c ∷ cs) (u ∷ us) numbers start same alike =
    let first : get_or numbers start 0 ≡ u = ap (λ (k : ℕ). get_or numbers k 0) (let e : start ≡ start + 0 = omega arith in e) ∙ alike 0 (omega arith) in
    let rest = count_paired clock cs us numbers (start + 1) (omega (arith, same)) (λ i low. (
    ap (λ (k : ℕ). get_or numbers k 0) (let e : start + 1 + i ≡ start + suc i = omega arith in e) ∙ alike (suc i) (omega (arith, low)))) in
    sum_by-cons (λ (x : ℕ × ℕ). cond (is_later clock x) 1 0) (c, get_or numbers start 0) (paired cs numbers (start + 1))
    ∙ ap (λ (n : ℕ). cond (ltb clock n) 1 0 + count_by (is_later clock) (paired cs numbers (start + 1))) first
    ∙ ap (λ (n : ℕ). cond (ltb clock u) 1 0 + n) rest
    ∙ sym (sum_by-cons (λ (n : ℕ). cond (ltb clock n) 1 0) u us)

-- of all untils
pub count_all : (clock : ℕ) (commits untils : List ℕ) → length commits ≡ length untils → count_by (is_later clock) (paired commits untils 0) ≡ count_by (λ until. ltb clock until) untils
count_all clock commits untils same = count_paired clock commits untils untils 0 same (λ i low. ap (λ (k : ℕ). get_or untils k 0) (let e : 0 + i ≡ i = omega arith in e))

-- the copies over a row with the same numbers
pub copies_alike : (kept row row_after : List ℕ) (start : ℕ) → length row ≡ 2 * start → ((i : ℕ) → length row ≤ 2 * i → get_or row_after i 0 ≡ get_or row i 0) → paired kept row_after start ≡ paired kept row start
copies_alike kept row row_after start sized alike = paired_alike kept row_after row start start (λ i low. alike (start + i) (omega (arith, sized)))

-- the untils of a range of the tree
pub range_alike : (commits tree lent lent_commits : List ℕ) (capacity len : ℕ) → lent ≡ tree → lent_commits ≡ commits → len ≡ length commits → capacity + len ≤ length tree →
    paired lent_commits (take (capacity + len - capacity) (drop capacity lent)) 0 ≡ paired commits tree capacity
range_alike commits tree lent lent_commits capacity len value commits_value len_is within =
    ap (λ (cs : List ℕ). paired cs (take (capacity + len - capacity) (drop capacity lent)) 0) commits_value
    ∙ ap (λ (xs : List ℕ). paired commits (take (capacity + len - capacity) (drop capacity xs)) 0) value
    ∙ paired_alike commits (take (capacity + len - capacity) (drop capacity tree)) tree 0 capacity (λ i low. (
    get_or-take (capacity + len - capacity) (drop capacity tree) (0 + i) 0 (omega (arith, len_is, low))
    ∙ get_or-drop capacity tree (0 + i) 0
    ∙ ap (λ (k : ℕ). get_or tree k 0) (let e : capacity + (0 + i) ≡ capacity + i = omega arith in e)))

-- fewer copies than the capacity leave space
pub later_space : (kept tree : List ℕ) (start capacity count : ℕ) → length kept ≡ count → count < capacity → length (paired kept tree start) < capacity
later_space kept tree start capacity count is less = (let n = length-paired kept tree start in omega (arith, n, is, less))

-- a filter twice is a filter once
filter_twice : {X : Type 0} (p : X → Bool) (xs : List X) → filter p (filter p xs) ≡ filter p xs
filter_twice p [] = refl
filter_twice {X} p (x ∷ xs) =
    elim (cases_Bool (p x)) [
      | inl passes ↦ rw passes (rw passes (ap (λ (ys : List X). x ∷ ys) (filter_twice p xs)))
      | inr other ↦ rw other (filter_twice p xs)
    ]

pub filter_again : {X : Type 0} (p : X → Bool) (new old : List X) → new ≡ filter p old → filter p new ≡ filter p old
filter_again p new old is = ap (filter p) is ∙ filter_twice p old

-- what was filled, in a vector that was written as a whole
pub filled : (kept filled_tree items tree commits lent lent_commits : List ℕ) (len capacity start commits_len clock : ℕ) (copies : List (ℕ × ℕ)) → length filled_tree ≡ length items → len ≡ length items →
    paired kept filled_tree start ≡ filter (is_later clock) (paired lent_commits (take (capacity + commits_len - capacity) (drop capacity lent)) 0) →
    lent ≡ tree → lent_commits ≡ commits → commits_len ≡ length commits → capacity + commits_len ≤ length tree → paired commits tree capacity ≡ copies →
    paired kept (take len (filled_tree ++ drop (length filled_tree) items)) start ≡ filter (is_later clock) copies
filled kept filled_tree items tree commits lent lent_commits len capacity start commits_len clock copies same full is value commits_value len_is within view =
    ap (λ (xs : List ℕ). paired kept xs start) (whole_written filled_tree items len same full)
    ∙ is
    ∙ ap (filter (is_later clock)) (range_alike commits tree lent lent_commits capacity commits_len value commits_value len_is within)
    ∙ ap (filter (is_later clock)) view
