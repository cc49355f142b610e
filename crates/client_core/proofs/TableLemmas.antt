-- A table of floors through the events of a session.
use Rattle.std.proofs.Common.{◌≡◌, ◌≢◌, ℕ, zero, suc, ◌+◌, ◌*◌, ◌<◌, ◌≤◌, Bool, true, false, if◌then◌else◌, max, List, [], ◌∷◌, length, map, set, replicate, filter, ◌⊎◌, inl, inr, refl, sym, subst, ap, ◌∙◌, arith, length-set, get_or-set_same, get_or-set_other}
use Rattle.std.proofs.Math.Nat.{le-max_left, le-max_right}
use Rattle.std.proofs.lemmas.Bool.{cases_Bool, cases_eq, cases_lt, cond-true, cond-false, eq-eqb, ne_eqb}
use Rattle.std.specs.List.{list_any}
use Rattle.flat_snapshot.specs.declared.sight.KeyMark.{KeyMark}
use Rattle.client_core.specs.declared.floors.FloorRow.{FloorRow}
use Rattle.client_core.specs.declared.floors.Floors.{Floors}
use Rattle.client_core.specs.declared.level.Level.{Level}
use Rattle.client_core.specs.declared.level.Level.TheVariants as level
use Rattle.client_core.specs.Floor.{floor_of, Event, read, listed, paged, reads_of, keys_of, greatest, all_commits, commits_of, is_listed, distinct, same_mark}
use Rattle.client_core.specs.Table.{blank, row_at, joined, unlisted, IsRowOf, ways, set_size, set_count, set_of, IsInSet, IsHome, IsAbsent, HasSpace, taken_from, crowd, HasRoomFor, IsCovered, KeepsAll, HasPast, Adds, Numbers, IsLeft, IsGivenAt, IsGiven, HoldsCommit, floor_from}
use Rattle.client_core.proofs.SetLemmas.{same_mark-true, same_mark-refl, or_first, or_second, or_either, set_of-below, set_within, set_alone, taken_same, taken_more, taken_all, taken_none, more_out, more_old, more_new, in_set, in_own, room_before}

-- ---- commits

-- the greatest commit with one read more, which counts or not
greatest_more : (b : Bool) (r : KeyMark × ℕ) (rest : List (KeyMark × ℕ)) →
    greatest (map (λ r. r.1) (if b then r ∷ rest else rest)) ≡ (if b then max r.1 (greatest (map (λ r. r.1) rest)) else greatest (map (λ r. r.1) rest))
greatest_more true r rest = refl
greatest_more false r rest = refl

pub own_more : (mark : KeyMark) (commit : ℕ) (reads : List (KeyMark × ℕ)) →
    greatest (commits_of same_mark mark ((mark, commit) ∷ reads)) ≡ max commit (greatest (commits_of same_mark mark reads))
own_more mark commit reads =
    greatest_more (same_mark mark mark) (mark, commit) (filter (λ r. same_mark mark r.0) reads) ∙ cond-true _ _ _ (same_mark-refl mark)

pub other_more : (x mark : KeyMark) (commit : ℕ) (reads : List (KeyMark × ℕ)) → same_mark x mark ≡ false →
    greatest (commits_of same_mark x ((mark, commit) ∷ reads)) ≡ greatest (commits_of same_mark x reads)
other_more x mark commit reads other =
    greatest_more (same_mark x mark) (mark, commit) (filter (λ r. same_mark x r.0) reads) ∙ cond-false _ _ _ other

-- a choice between a maximum and its second number is at most the maximum
choice_le : (b : Bool) (n g all : ℕ) → g ≤ all → (if b then max n g else g) ≤ max n all
choice_le true n g all le = omega arith
choice_le false n g all le = omega arith

-- the reads of one key are among all
pub commits_le_all : (x : KeyMark) (reads : List (KeyMark × ℕ)) → greatest (commits_of same_mark x reads) ≤ greatest (all_commits reads)
commits_le_all x [] = omega arith
commits_le_all x (r ∷ reads) =
    subst (λ (n : ℕ). n ≤ max r.1 (greatest (all_commits reads)))
    (sym (greatest_more (same_mark x r.0) r (filter (λ r. same_mark x r.0) reads)))
    (choice_le (same_mark x r.0) r.1 (greatest (commits_of same_mark x reads)) (greatest (all_commits reads)) (commits_le_all x reads))

-- ---- rows

pub row_same : (rows : List FloorRow) (i : ℕ) (new : FloorRow) → i < length rows → row_at (set rows i new) i ≡ new
row_same rows i new within = get_or-set_same rows i new blank within

pub row_other : (rows : List FloorRow) (i j : ℕ) (new : FloorRow) → j ≢ i → row_at (set rows i new) j ≡ row_at rows j
row_other rows i j new other = get_or-set_other rows i j new blank other

row_before : (rows : List FloorRow) (i j : ℕ) (new : FloorRow) (x : KeyMark) → j ≢ i → IsRowOf (set rows i new) x j → IsRowOf rows x j
row_before rows i j new x other r =
    let same = row_other rows i j new other in
    let long : length (set rows i new) ≡ length rows = length-set rows i new in
    record {
      within = omega (arith, long, r.within);
      taken = ap (λ (q : FloorRow). q.is_taken) (sym same) ∙ r.taken;
      mark_is = ap (λ (q : FloorRow). q.mark) (sym same) ∙ r.mark_is;
    }

row_after : (rows : List FloorRow) (i j : ℕ) (new : FloorRow) (x : KeyMark) → j ≢ i → IsRowOf rows x j → IsRowOf (set rows i new) x j
row_after rows i j new x other r =
    let same = row_other rows i j new other in
    let long : length (set rows i new) ≡ length rows = length-set rows i new in
    record {
      within = omega (arith, long, r.within);
      taken = ap (λ (q : FloorRow). q.is_taken) same ∙ r.taken;
      mark_is = ap (λ (q : FloorRow). q.mark) same ∙ r.mark_is;
    }

row_new : (rows : List FloorRow) (i : ℕ) (new : FloorRow) (x : KeyMark) → i < length rows → new.is_taken ≡ true → new.mark ≡ x → IsRowOf (set rows i new) x i
row_new rows i new x within taken mark =
    let same = row_same rows i new within in
    let long : length (set rows i new) ≡ length rows = length-set rows i new in
    record {
      within = omega (arith, long, within);
      taken = ap (λ (q : FloorRow). q.is_taken) same ∙ taken;
      mark_is = ap (λ (q : FloorRow). q.mark) same ∙ mark;
    }

-- the row that was written is its mark's
row_mark : (rows : List FloorRow) (i : ℕ) (new : FloorRow) (x : KeyMark) → i < length rows → IsRowOf (set rows i new) x i → x ≡ new.mark
row_mark rows i new x within r = sym r.mark_is ∙ ap (λ (q : FloorRow). q.mark) (row_same rows i new within)

-- ---- one row is written

-- the commits of a mark never fall
commits_grow : (past more : List (Event KeyMark)) (row : FloorRow) (pages : ℕ) → Adds past more row pages → (x : KeyMark) →
    greatest (commits_of same_mark x (reads_of past)) ≤ greatest (commits_of same_mark x (reads_of more))
commits_grow past more row pages adds x = elim (cases_Bool (same_mark x row.mark)) [
  | inl same ↦
      (let is = same_mark-true x row.mark same in
      subst (λ (y : KeyMark). greatest (commits_of same_mark y (reads_of past)) ≤ greatest (commits_of same_mark y (reads_of more))) (sym is)
      (omega (arith, adds.own)))
  | inr other ↦ omega (arith, adds.others x other)
]

-- row i is taken already, and its new mark is one of the past
abbrev IsSame : List FloorRow → List (Event KeyMark) → ℕ → FloorRow → Type 0
IsSame rows past i row = ((row_at rows i).is_taken ≡ true) × (list_any (same_mark row.mark) (keys_of past) ≡ true)

-- row i is free, and its new mark is none of the past
abbrev IsNew : List FloorRow → List (Event KeyMark) → ℕ → FloorRow → Type 0
IsNew rows past i row = ((row_at rows i).is_taken ≡ false) × (list_any (same_mark row.mark) (keys_of past) ≡ false)

-- row i becomes the mark's
pub record Placed (f g : Floors) (rows : List FloorRow) (past : List (Event KeyMark)) (i : ℕ) (row new : FloorRow) : Type 0 where
  pub within : i < length rows
  pub home : IsHome rows row.mark i
  pub mark_is : new.mark ≡ row.mark
  pub taken : new.is_taken ≡ true
  pub lone : (k : ℕ) → k ≢ i → IsRowOf rows row.mark k → ⊥
  pub least : row.commit ≤ new.commit
  pub most : new.commit ≤ max row.commit (greatest (commits_of same_mark row.mark (reads_of past)))
  pub common_grew : f.common ≤ g.common
  pub common_most : g.common ≤ greatest (all_commits (reads_of past))
  pub old_row : (x : KeyMark) → IsRowOf rows x i → ((x ≡ row.mark) × ((row_at rows i).commit ≤ new.commit)) ⊎ ((row_at rows i).commit ≤ g.common)
  pub listed_low : new.listed_at ≤ f.pages
  pub listed_is : new.listed_at ≡ f.pages → (row.listed_at ≡ f.pages) ⊎ (is_listed same_mark past row.mark ≡ true)
  pub kept : g.has_dropped ≡ false → (f.has_dropped ≡ false) × (g.common ≡ f.common)
  pub kept_row : g.has_dropped ≡ false → row.listed_at ≡ f.pages → new.listed_at ≡ f.pages
  pub kept_old : g.has_dropped ≡ false → (x : KeyMark) → IsRowOf rows x i → (row_at rows i).listed_at ≡ f.pages →
      (x ≡ row.mark) × (new.listed_at ≡ f.pages)
  pub kept_mark : g.has_dropped ≡ false → (x : KeyMark) → IsRowOf rows x i → x ≡ row.mark
  -- the row was the mark's, or it was free and the mark is new
  pub was : g.has_dropped ≡ false → IsSame rows past i row ⊎ IsNew rows past i row

module _ (f g : Floors) (rows : List FloorRow) (past more : List (Event KeyMark)) (i : ℕ) (row new : FloorRow)
    (had : HasPast f rows past) (adds : Adds past more row f.pages) (numbers : Numbers f g row) (p : Placed f g rows past i row new)
    (fits : HasRoomFor (length rows) more → g.has_dropped ≡ false) where
  -- the mark of a row at i is the one that was put there
  own_mark : (x : KeyMark) (j : ℕ) → j ≡ i → IsRowOf (set rows i new) x j → x ≡ row.mark
  own_mark x j at r = row_mark rows i new x p.within (subst (λ (m : ℕ). IsRowOf (set rows i new) x m) at r) ∙ p.mark_is

  -- a row of that mark is at i alone
  not_there : (x : KeyMark) (k : ℕ) → k ≢ i → x ≡ row.mark → IsRowOf (set rows i new) x k → ⊥
  not_there x k other is r = p.lone k other (subst (λ (y : KeyMark). IsRowOf rows y k) is (row_before rows i k new x other r))

  still_one : (x : KeyMark) (j k : ℕ) → IsRowOf (set rows i new) x j → IsRowOf (set rows i new) x k → j ≡ k
  still_one x j k a b = elim (cases_eq j i) [
    | inl here ↦ elim (cases_eq k i) [
      | inl too ↦ here ∙ sym too
      | inr other ↦ absurd (not_there x k other (own_mark x j here a) b)
    ]
    | inr there ↦ elim (cases_eq k i) [
      | inl too ↦ absurd (not_there x j there (own_mark x k too b) a)
      | inr other ↦ had.one x j k (row_before rows i j new x there a) (row_before rows i k new x other b)
    ]
  ]

  -- the row at i, by a number equal to i
  new_at : (j : ℕ) → j ≡ i → row_at (set rows i new) j ≡ new
  new_at j at = ap (λ (m : ℕ). row_at (set rows i new) m) at ∙ row_same rows i new p.within

  still_sound : (x : KeyMark) (j : ℕ) → IsRowOf (set rows i new) x j → (row_at (set rows i new) j).commit ≤ greatest (commits_of same_mark x (reads_of more))
  still_sound x j r = elim (cases_eq j i) [
    | inl here ↦
        (let e = ap (λ (q : FloorRow). q.commit) (new_at j here) in
        let of_mark = ap (λ (y : KeyMark). greatest (commits_of same_mark y (reads_of more))) (own_mark x j here r) in
        omega (arith, e, of_mark, adds.own, p.most))
    | inr there ↦
        (let e = ap (λ (q : FloorRow). q.commit) (row_other rows i j new there) in
        let grew = commits_grow past more row f.pages adds x in
        let was = had.sound x j (row_before rows i j new x there r) in
        omega (arith, e, grew, was))
  ]

  still_old : (x : KeyMark) (j : ℕ) → IsRowOf (set rows i new) x j → (row_at (set rows i new) j).listed_at ≤ g.pages
  still_old x j r = elim (cases_eq j i) [
    | inl here ↦
        (let e = ap (λ (q : FloorRow). q.listed_at) (new_at j here) in
        omega (arith, e, numbers.pages, p.listed_low))
    | inr there ↦
        (let e = ap (λ (q : FloorRow). q.listed_at) (row_other rows i j new there) in
        let was = had.old_pages x j (row_before rows i j new x there r) in
        omega (arith, e, was, numbers.pages))
  ]

  own_listing : (x : KeyMark) → x ≡ row.mark → (row.listed_at ≡ f.pages) ⊎ (is_listed same_mark past row.mark ≡ true) → is_listed same_mark more x ≡ true
  own_listing x is (inl at) = subst (λ (y : KeyMark). is_listed same_mark more y ≡ true) (sym is) (adds.listed_own at)
  own_listing x is (inr was) = subst (λ (y : KeyMark). is_listed same_mark more y ≡ true) (sym is) (adds.listed_more row.mark was)

  still_listings : (x : KeyMark) (j : ℕ) → IsRowOf (set rows i new) x j → (row_at (set rows i new) j).listed_at ≡ g.pages → is_listed same_mark more x ≡ true
  still_listings x j r at = elim (cases_eq j i) [
    | inl here ↦ own_listing x (own_mark x j here r) (p.listed_is (sym (ap (λ (q : FloorRow). q.listed_at) (new_at j here)) ∙ at ∙ numbers.pages))
    | inr there ↦
        adds.listed_more x (had.listings x j (row_before rows i j new x there r) (sym (ap (λ (q : FloorRow). q.listed_at) (row_other rows i j new there)) ∙ at ∙ numbers.pages))
  ]

  -- the marks of the past, with this one
  among : (x : KeyMark) → (x ≡ row.mark) ⊎ (list_any (same_mark x) (keys_of past) ≡ true) → list_any (same_mark x) (keys_of more) ≡ true
  among x is = ap (list_any (same_mark x)) adds.keys ∙ elim is [
    | inl own ↦ or_first (same_mark x row.mark) (list_any (same_mark x) (keys_of past)) (ap (same_mark x) (sym own) ∙ same_mark-refl x)
    | inr old ↦ or_second (same_mark x row.mark) (list_any (same_mark x) (keys_of past)) old
  ]

  still_known : (x : KeyMark) (j : ℕ) → IsRowOf (set rows i new) x j → list_any (same_mark x) (keys_of more) ≡ true
  still_known x j r = elim (cases_eq j i) [
    | inl here ↦ among x (inl (own_mark x j here r))
    | inr there ↦ among x (inr (had.known x j (row_before rows i j new x there r)))
  ]

  long : length (set rows i new) ≡ length rows
  long = length-set rows i new

  still_home : (x : KeyMark) (j : ℕ) → IsRowOf (set rows i new) x j → IsHome (set rows i new) x j
  still_home x j r = subst (λ (n : ℕ). IsInSet n (set_of n x) j) (sym long) (elim (cases_eq j i) [
    | inl here ↦ subst (λ (m : ℕ). IsHome rows x m) (sym here) (subst (λ (y : KeyMark). IsHome rows y i) (sym (own_mark x j here r)) p.home)
    | inr there ↦ had.home x j (row_before rows i j new x there r)
  ])

  -- the mark's own commits are covered, by the common floor or by the new row
  own_covered : (x : KeyMark) → x ≡ row.mark → (greatest (commits_of same_mark row.mark (reads_of past)) ≤ g.common) ⊎ (greatest (commits_of same_mark row.mark (reads_of past)) ≤ new.commit) →
      IsCovered (set rows i new) g.common x (greatest (commits_of same_mark x (reads_of more)))
  own_covered x is was =
      let of_mark = ap (λ (y : KeyMark). greatest (commits_of same_mark y (reads_of more))) is in
      let here = row_new rows i new x p.within p.taken (p.mark_is ∙ sym is) in
      let e = ap (λ (q : FloorRow). q.commit) (row_same rows i new p.within) in
      elim (cases_lt new.commit (greatest (commits_of same_mark row.mark (reads_of past)))) [
        | inl above ↦ elim was [
          | inl low ↦ inl (omega (arith, of_mark, adds.own, p.least, above, low))
          | inr low ↦ absurd (omega (arith, above, low))
        ]
        | inr under ↦ inr (i, (here, omega (arith, of_mark, adds.own, p.least, under, e)))
      ]

  own_was : IsCovered rows f.common row.mark (greatest (commits_of same_mark row.mark (reads_of past))) →
      (greatest (commits_of same_mark row.mark (reads_of past)) ≤ g.common) ⊎ (greatest (commits_of same_mark row.mark (reads_of past)) ≤ new.commit)
  own_was (inl low) = inl (omega (arith, low, p.common_grew))
  own_was (inr (k, (r, low))) = elim (cases_eq k i) [
    | inl here ↦
        (let e = ap (λ (m : ℕ). (row_at rows m).commit) here in
        elim (p.old_row row.mark (subst (λ (m : ℕ). IsRowOf rows row.mark m) here r)) [
          | inl mine ↦ (let le = mine.1 in inr (omega (arith, e, low, le)))
          | inr gone ↦ inl (omega (arith, e, low, gone))
        ])
    | inr there ↦ absurd (p.lone k there r)
  ]

  other_covered : (x : KeyMark) → same_mark x row.mark ≡ false → IsCovered rows f.common x (greatest (commits_of same_mark x (reads_of past))) →
      IsCovered (set rows i new) g.common x (greatest (commits_of same_mark x (reads_of more)))
  other_covered x other (inl low) = inl (let same = adds.others x other in omega (arith, same, low, p.common_grew))
  other_covered x other (inr (k, (r, low))) = elim (cases_eq k i) [
    | inl here ↦
        (let e = ap (λ (m : ℕ). (row_at rows m).commit) here in
        let same = adds.others x other in
        elim (p.old_row x (subst (λ (m : ℕ). IsRowOf rows x m) here r)) [
          | inl mine ↦ absurd (let never : ◌≡◌ {A = Bool} true false = sym (same_mark-refl row.mark) ∙ ap (λ (y : KeyMark). same_mark y row.mark) (sym mine.0) ∙ other in cc)
          | inr gone ↦ inl (omega (arith, e, low, gone, same))
        ])
    | inr there ↦
        (let e = ap (λ (q : FloorRow). q.commit) (row_other rows i k new there) in
        let same = adds.others x other in
        inr (k, (row_after rows i k new x there r, omega (arith, e, same, low))))
  ]

  still_covered : (x : KeyMark) → IsCovered (set rows i new) g.common x (greatest (commits_of same_mark x (reads_of more)))
  still_covered x = elim (cases_Bool (same_mark x row.mark)) [
    | inl same ↦ own_covered x (same_mark-true x row.mark same) (own_was (had.covered row.mark))
    | inr other ↦ other_covered x other (had.covered x)
  ]

  kept_listed : g.has_dropped ≡ false → KeepsAll f rows past → (x : KeyMark) → (is_listed same_mark past x ≡ true) ⊎ ((x ≡ row.mark) × (row.listed_at ≡ f.pages)) →
      (j : ℕ) × (IsRowOf (set rows i new) x j × ((row_at (set rows i new) j).listed_at ≡ g.pages))
  kept_listed none old x (inr own) =
      (i, (row_new rows i new x p.within p.taken (p.mark_is ∙ sym own.0), ap (λ (q : FloorRow). q.listed_at) (row_same rows i new p.within) ∙ p.kept_row none own.1 ∙ sym numbers.pages))
  kept_listed none old x (inl was) =
      let at = old.listed x was in
      elim (cases_eq at.0 i) [
        | inl here ↦
            (let r : IsRowOf rows x i = subst (λ (m : ℕ). IsRowOf rows x m) here at.1.0 in
            let when : (row_at rows i).listed_at ≡ f.pages = ap (λ (m : ℕ). (row_at rows m).listed_at) (sym here) ∙ at.1.1 in
            let is = p.kept_old none x r when in
            (i, (row_new rows i new x p.within p.taken (p.mark_is ∙ sym is.0), ap (λ (q : FloorRow). q.listed_at) (row_same rows i new p.within) ∙ is.1 ∙ sym numbers.pages)))
        | inr there ↦
            (at.0, (row_after rows i at.0 new x there at.1.0, ap (λ (q : FloorRow). q.listed_at) (row_other rows i at.0 new there) ∙ at.1.1 ∙ sym numbers.pages))
      ]

  kept_row : g.has_dropped ≡ false → KeepsAll f rows past → (x : KeyMark) → list_any (same_mark x) (keys_of more) ≡ true → (j : ℕ) × IsRowOf (set rows i new) x j
  kept_row none old x there = elim (or_either (same_mark x row.mark) (list_any (same_mark x) (keys_of past)) (sym (ap (list_any (same_mark x)) adds.keys) ∙ there)) [
    | inr own ↦ (i, row_new rows i new x p.within p.taken (p.mark_is ∙ sym (same_mark-true x row.mark own)))
    | inl was ↦
        (let at = old.kept x was in
        elim (cases_eq at.0 i) [
          | inl here ↦
              (let is = p.kept_mark none x (subst (λ (m : ℕ). IsRowOf rows x m) here at.1) in
              (i, row_new rows i new x p.within p.taken (p.mark_is ∙ sym is)))
          | inr other ↦ (at.0, row_after rows i at.0 new x other at.1)
        ])
  ]

  -- in a set that row i is not in the count stays
  count_out : (s : ℕ) → s ≢ set_of (length rows) row.mark →
      (taken_from (set rows i new) (ways * s) (set_size (length rows)) ≡ taken_from rows (ways * s) (set_size (length rows)))
      × (crowd (length rows) s more ≡ crowd (length rows) s past)
  count_out s other = (
    taken_same rows (set rows i new) (ways * s) (set_size (length rows)) (λ j low high.
        ap (λ (q : FloorRow). q.is_taken) (row_other rows i j new (λ at.
        other (set_alone (length rows) s (set_of (length rows) row.mark) i
        (record { begins = omega (arith, low, at); ends = omega (arith, high, at) }) p.home)))),
    ap (λ (ks : List KeyMark). distinct same_mark (filter (in_set (length rows) s) ks)) adds.keys
        ∙ more_out (in_set (length rows) s) row.mark (keys_of past) (ne_eqb (set_of (length rows) row.mark) s (λ e. other (sym e))),
  )

  -- in its own set there is one more of each, or the same of each
  count_own : IsSame rows past i row ⊎ IsNew rows past i row → (s : ℕ) → s ≡ set_of (length rows) row.mark →
      taken_from rows (ways * s) (set_size (length rows)) ≡ crowd (length rows) s past →
      taken_from (set rows i new) (ways * s) (set_size (length rows)) ≡ crowd (length rows) s more
  count_own (inl same) s own was =
      taken_same rows (set rows i new) (ways * s) (set_size (length rows)) (λ j low high. elim (cases_eq j i) [
        | inl here ↦ ap (λ (q : FloorRow). q.is_taken) (new_at j here) ∙ p.taken ∙ sym (ap (λ (m : ℕ). (row_at rows m).is_taken) here ∙ same.0)
        | inr there ↦ ap (λ (q : FloorRow). q.is_taken) (row_other rows i j new there)
      ])
      ∙ was
      ∙ sym (ap (λ (ks : List KeyMark). distinct same_mark (filter (in_set (length rows) s) ks)) adds.keys
      ∙ more_old (in_set (length rows) s) row.mark (keys_of past) (eq-eqb (set_of (length rows) row.mark) s (sym own)) same.1)
  count_own (inr new_one) s own was =
      let home : IsInSet (length rows) s i = subst (λ (t : ℕ). IsInSet (length rows) t i) (sym own) p.home in
      let one = taken_more rows (set rows i new) (ways * s) (set_size (length rows)) i home.begins home.ends new_one.0
      (ap (λ (q : FloorRow). q.is_taken) (row_same rows i new p.within) ∙ p.taken)
      (λ j other. ap (λ (q : FloorRow). q.is_taken) (row_other rows i j new other)) in
      let more_one : crowd (length rows) s more ≡ 1 + crowd (length rows) s past =
      ap (λ (ks : List KeyMark). distinct same_mark (filter (in_set (length rows) s) ks)) adds.keys
      ∙ more_new (in_set (length rows) s) row.mark (keys_of past) (eq-eqb (set_of (length rows) row.mark) s (sym own)) new_one.1 in
      omega (arith, one, was, more_one)

  still_counted : g.has_dropped ≡ false → KeepsAll f rows past → (s : ℕ) → s < set_count (length rows) →
      taken_from (set rows i new) (ways * s) (set_size (length rows)) ≡ crowd (length rows) s more
  still_counted none old s below = elim (cases_eq s (set_of (length rows) row.mark)) [
    | inl own ↦ count_own (p.was none) s own (old.counted s below)
    | inr other ↦ (let out = count_out s other in out.0 ∙ old.counted s below ∙ sym out.1)
  ]

  still_keeps : g.has_dropped ≡ false → KeepsAll g (set rows i new) more
  still_keeps none =
      let kept = p.kept none in
      let old = had.keeps kept.0 in
      record {
        none = kept.1 ∙ old.none;
        listed = λ x l. kept_listed none old x (adds.listed_less x l);
        kept = kept_row none old;
        counted = subst (λ (n : ℕ). (s : ℕ) → s < set_count n → taken_from (set rows i new) (ways * s) (set_size n) ≡ crowd n s more) (sym long) (still_counted none old);
      }

  pub placed_past : HasPast g (set rows i new) more
  placed_past = record {
    one = still_one;
    home = still_home;
    known = still_known;
    written = numbers.writes ∙ had.written ∙ ap greatest (sym adds.writes);
    was_read = omega (arith, numbers.reads, had.was_read, adds.all);
    common = omega (arith, p.common_most, adds.all);
    covered = still_covered;
    sound = still_sound;
    some_pages = omega (arith, had.some_pages, numbers.pages);
    old_pages = still_old;
    listings = still_listings;
    keeps = still_keeps;
    fits = λ room. fits (subst (λ (n : ℕ). HasRoomFor n more) long room);
  }

-- a mark that has a row
pub found_past : (f g : Floors) (rows : List FloorRow) (past more : List (Event KeyMark)) (i : ℕ) (row new : FloorRow) →
    HasPast f rows past → Adds past more row f.pages → row.listed_at ≤ f.pages → IsRowOf rows row.mark i →
    new ≡ joined (row_at rows i) row → Numbers f g row → g.common ≡ f.common → g.has_dropped ≡ f.has_dropped → HasPast g (set rows i new) more
found_past f g rows past more i row new had adds low r is numbers common dropped =
    let was = had.sound row.mark i r in
    let old = had.old_pages row.mark i r in
    subst (λ (q : FloorRow). HasPast g (set rows i q) more) (sym is)
    (placed_past f g rows past more i row (joined (row_at rows i) row) had adds numbers (record {
      within = r.within;
      home = had.home row.mark i r;
      mark_is = refl;
      taken = refl;
      lone = λ k other there. other (had.one row.mark k i there r);
      least = le-max_right (row_at rows i).commit row.commit;
      most = omega (arith, was);
      common_grew = omega (arith, common);
      common_most = omega (arith, common, had.common);
      old_row = λ x there. inl (sym there.mark_is ∙ r.mark_is, le-max_left (row_at rows i).commit row.commit);
      listed_low = omega (arith, old, low);
      listed_is = λ at. elim (cases_eq row.listed_at f.pages) [
        | inl own ↦ inl own
        | inr other ↦ inr (had.listings row.mark i r (omega (arith, at, other, low)))
      ];
      kept = λ none. (sym dropped ∙ none, common);
      kept_row = λ none at. omega (arith, old, at);
      kept_old = λ none x there at. (sym there.mark_is ∙ r.mark_is, omega (arith, at, low));
      kept_mark = λ none x there. sym there.mark_is ∙ r.mark_is;
      was = λ none. inl (r.taken, had.known row.mark i r);
    }) (λ room. dropped ∙ had.fits (room_before (length rows) past more row.mark adds.keys room)))

-- while no row was dropped, a mark without a row is none of the past
unknown : (f : Floors) (rows : List FloorRow) (past : List (Event KeyMark)) (mark : KeyMark) → HasPast f rows past → KeepsAll f rows past → IsAbsent rows mark →
    list_any (same_mark mark) (keys_of past) ≡ false
unknown f rows past mark had keeps absent = elim (cases_Bool (list_any (same_mark mark) (keys_of past))) [
  | inl old ↦ (let at = keeps.kept mark old in absurd (absent at.0 (had.home mark at.0 at.1) at.1))
  | inr new ↦ new
]

-- where a past has a mark without a row whose set is taken, a set has no room for its marks
crowded : (f : Floors) (rows : List FloorRow) (past more : List (Event KeyMark)) (row : FloorRow) → HasPast f rows past → Adds past more row f.pages →
    IsAbsent rows row.mark → ((j : ℕ) → IsHome rows row.mark j → (row_at rows j).is_taken ≡ true) → HasRoomFor (length rows) more → ⊥
crowded f rows past more row had adds absent all room =
    let s = set_of (length rows) row.mark in
    let below = set_of-below (length rows) row.mark in
    let keeps = had.keeps (had.fits (room_before (length rows) past more row.mark adds.keys room)) in
    let new = unknown f rows past row.mark had keeps absent in
    let full = taken_all rows (ways * s) (set_size (length rows)) (λ j low high. all j (record { begins = low; ends = high })) in
    let was = keeps.counted s below in
    let one : crowd (length rows) s more ≡ 1 + crowd (length rows) s past =
    ap (λ (ks : List KeyMark). distinct same_mark (filter (in_set (length rows) s) ks)) adds.keys
    ∙ more_new (in_set (length rows) s) row.mark (keys_of past) (in_own (length rows) row.mark) new in
    let fits = room s below in
    omega (arith, full, was, one, fits)

-- where there are no rows the common floor covers each mark
bare_covered : (f g : Floors) (rows : List FloorRow) (past more : List (Event KeyMark)) (row : FloorRow) →
    Adds past more row f.pages → g.common ≡ max f.common row.commit → (x : KeyMark) → greatest (commits_of same_mark x (reads_of past)) ≤ f.common →
    greatest (commits_of same_mark x (reads_of more)) ≤ g.common
bare_covered f g rows past more row adds common x low = elim (cases_Bool (same_mark x row.mark)) [
  | inl same ↦
      (let is = same_mark-true x row.mark same in
      let before = ap (λ (y : KeyMark). greatest (commits_of same_mark y (reads_of past))) is in
      let after = ap (λ (y : KeyMark). greatest (commits_of same_mark y (reads_of more))) is in
      omega (arith, before, after, adds.own, common, low))
  | inr other ↦ (let same = adds.others x other in omega (arith, same, common, low))
]

-- without rows no row is in a set
no_home : (rows : List FloorRow) (mark : KeyMark) (i : ℕ) → length rows ≡ 0 → IsHome rows mark i → ⊥
no_home rows mark i none home = omega (arith, none, home.begins, home.ends)

-- a table with no rows
bare_past : (f g : Floors) (rows : List FloorRow) (past more : List (Event KeyMark)) (row : FloorRow) →
    HasPast f rows past → Adds past more row f.pages → IsAbsent rows row.mark → Numbers f g row → length rows ≡ 0 → g.common ≡ max f.common row.commit → g.has_dropped ≡ true → HasPast g rows more
bare_past f g rows past more row had adds absent numbers none common dropped =
    let never : (x : KeyMark) (i : ℕ) → IsRowOf rows x i → ⊥ = λ x i r. (let w = r.within in omega (arith, w, none)) in
    record {
      one = λ x j k a b. absurd (never x j a);
      home = λ x j r. absurd (never x j r);
      known = λ x j r. absurd (never x j r);
      written = numbers.writes ∙ had.written ∙ ap greatest (sym adds.writes);
      was_read = omega (arith, numbers.reads, had.was_read, adds.all);
      common = omega (arith, common, had.common, adds.all);
      covered = λ x. inl (bare_covered f g rows past more row adds common x (elim (had.covered x) [ inl low ↦ low | inr found ↦ absurd (never x found.0 found.1.0) ]));
      sound = λ x j r. absurd (never x j r);
      some_pages = omega (arith, had.some_pages, numbers.pages);
      old_pages = λ x j r. absurd (never x j r);
      listings = λ x j r at. absurd (never x j r);
      keeps = λ kept. absurd (let no : ◌≡◌ {A = Bool} true false = sym dropped ∙ kept in cc);
      fits = λ room. absurd (crowded f rows past more row had adds absent (λ j home. absurd (no_home rows row.mark j none home)) room);
    }

-- the row that is given away, or was free
given_placed : (f g : Floors) (rows : List FloorRow) (past : List (Event KeyMark)) (i : ℕ) (row : FloorRow) →
    HasPast f rows past → row.listed_at ≤ f.pages → row.is_taken ≡ true → IsAbsent rows row.mark → i < length rows → IsHome rows row.mark i → IsLeft f g (row_at rows i) →
    Placed f g rows past i row row
given_placed f g rows past i row had low taken absent within home left = elim (cases_Bool (row_at rows i).is_taken) [
  | inl was ↦
      (let l = left.taken was in
      let sound = had.sound (row_at rows i).mark i (record { within = within; taken = was; mark_is = refl }) in
      let among = commits_le_all (row_at rows i).mark (reads_of past) in
      let common = l.0 in
      let never : g.has_dropped ≡ false → ⊥ = λ none. (let no : ◌≡◌ {A = Bool} true false = sym l.1 ∙ none in cc) in
      record {
        within = within;
        home = home;
        mark_is = refl;
        taken = taken;
        lone = λ k other r. absent k (had.home row.mark k r) r;
        least = omega arith;
        most = le-max_left row.commit (greatest (commits_of same_mark row.mark (reads_of past)));
        common_grew = omega (arith, common);
        common_most = omega (arith, common, sound, among, had.common);
        old_row = λ x there. inr (omega (arith, common));
        listed_low = low;
        listed_is = λ at. inl at;
        kept = λ none. absurd (never none);
        kept_row = λ none at. at;
        kept_old = λ none x there at. absurd (never none);
        kept_mark = λ none x there. absurd (never none);
        was = λ none. absurd (never none);
      })
  | inr free ↦
      (let l = left.free free in
      let common = l.0 in
      let never : (x : KeyMark) → IsRowOf rows x i → ⊥ = λ x there. (let no : ◌≡◌ {A = Bool} true false = sym there.taken ∙ free in cc) in
      record {
        within = within;
        home = home;
        mark_is = refl;
        taken = taken;
        lone = λ k other r. absent k (had.home row.mark k r) r;
        least = omega arith;
        most = le-max_left row.commit (greatest (commits_of same_mark row.mark (reads_of past)));
        common_grew = omega (arith, common);
        common_most = omega (arith, common, had.common);
        old_row = λ x there. absurd (never x there);
        listed_low = low;
        listed_is = λ at. inl at;
        kept = λ none. (sym l.1 ∙ none, common);
        kept_row = λ none at. at;
        kept_old = λ none x there at. absurd (never x there);
        kept_mark = λ none x there. absurd (never x there);
        was = λ none. inr (free, unknown f rows past row.mark had (had.keeps (sym l.1 ∙ none)) absent);
      })
]

-- where there is room for the marks, no row was given away
given_fits : (f g : Floors) (rows given : List FloorRow) (past more : List (Event KeyMark)) (row : FloorRow) (i : ℕ) →
    HasPast f rows past → Adds past more row f.pages → IsAbsent rows row.mark → IsGivenAt f g rows given row i → HasRoomFor (length rows) more → g.has_dropped ≡ false
given_fits f g rows given past more row i had adds absent at room = elim at.choice.least [
  | inl free ↦ (at.left.free free).1 ∙ had.fits (room_before (length rows) past more row.mark adds.keys room)
  | inr all ↦ absurd (crowded f rows past more row had adds absent (λ j home. (all j home).0) room)
]

-- a mark that has no row
pub given_past : (f g : Floors) (rows given : List FloorRow) (past more : List (Event KeyMark)) (row : FloorRow) →
    HasPast f rows past → Adds past more row f.pages → row.listed_at ≤ f.pages → row.is_taken ≡ true → IsAbsent rows row.mark → IsGiven f g rows given row → HasPast g given more
given_past f g rows given past more row had adds low taken absent is = elim is.place [
  | inl bare ↦
      subst (λ (xs : List FloorRow). HasPast g xs more) (sym bare.same)
      (bare_past f g rows past more row had adds absent is.numbers bare.empty bare.common bare.dropped)
  | inr (i, at) ↦
      (let ends = set_within (length rows) (set_of (length rows) row.mark) (set_of-below (length rows) row.mark) in
      let last = at.choice.home.ends in
      subst (λ (xs : List FloorRow). HasPast g xs more) (sym at.written)
      (placed_past f g rows past more i row row had adds is.numbers
      (given_placed f g rows past i row had low taken absent (omega (arith, ends, last)) at.choice.home at.left)
      (given_fits f g rows given past more row i had adds absent at)))
]

-- no row is given away where the mark's set has space
pub given_space : (f g : Floors) (rows given : List FloorRow) (row : FloorRow) → IsAbsent rows row.mark → IsGiven f g rows given row → HasSpace rows row.mark → (g.common ≡ f.common) × (g.has_dropped ≡ f.has_dropped)
given_space f g rows given row absent is (k, (home, inr own)) = absurd (absent k home own)
given_space f g rows given row absent is (k, (home, inl free)) = elim is.place [
  | inl bare ↦ absurd (no_home rows row.mark k bare.empty home)
  | inr (i, at) ↦ elim at.choice.least [
    | inl was ↦ at.left.free was
    | inr all ↦ absurd (let no : ◌≡◌ {A = Bool} true false = sym (all k home).0 ∙ free in cc)
  ]
]

-- one of the least commit of its set is given away
pub given_least : (f g : Floors) (rows given : List FloorRow) (row : FloorRow) → IsGiven f g rows given row →
    (k : ℕ) → IsHome rows row.mark k → g.common ≤ max f.common (row_at rows k).commit
given_least f g rows given row is k home = elim is.place [
  | inl bare ↦ absurd (no_home rows row.mark k bare.empty home)
  | inr (i, at) ↦ elim at.choice.least [
    | inl was ↦ (let same = (at.left.free was).0 in omega (arith, same))
    | inr all ↦
        (let low = (all k home).1 in
        let raised = (at.left.taken (all i at.choice.home).0).0 in
        omega (arith, low, raised))
  ]
]

-- ---- a blank table, and one without a whitelist

blank_rows : (n i : ℕ) → (row_at (replicate n blank) i).is_taken ≡ false
blank_rows zero i = refl
blank_rows (suc n) zero = refl
blank_rows (suc n) (suc i) = blank_rows n i

-- of a blank table nothing has happened
pub blank_past : (f : Floors) (n : ℕ) (rows : List FloorRow) → rows ≡ replicate n blank →
    f.common ≡ 0 → f.writes ≡ 0 → f.reads ≡ 0 → f.pages ≡ 1 → f.has_dropped ≡ false → HasPast f rows []
blank_past f n rows blanks common writes reads pages dropped =
    let none : (i : ℕ) → (row_at rows i).is_taken ≡ false = λ i. ap (λ (xs : List FloorRow). (row_at xs i).is_taken) blanks ∙ blank_rows n i in
    let never : (x : KeyMark) (i : ℕ) → IsRowOf rows x i → ⊥ = λ x i r. (let no : ◌≡◌ {A = Bool} true false = sym r.taken ∙ none i in cc) in
    record {
      one = λ x i j a b. absurd (never x i a);
      home = λ x i r. absurd (never x i r);
      known = λ x i r. absurd (never x i r);
      written = writes;
      was_read = reads;
      common = omega (arith, common);
      covered = λ x. inl (omega arith);
      sound = λ x i r. absurd (never x i r);
      some_pages = omega (arith, pages);
      old_pages = λ x i r. absurd (never x i r);
      listings = λ x i r at. absurd (never x i r);
      keeps = λ kept. record {
        none = common;
        listed = λ x l. absurd (let no : ◌≡◌ {A = Bool} false true = l in cc);
        kept = λ x l. absurd (let no : ◌≡◌ {A = Bool} false true = l in cc);
        counted = λ s below. taken_none rows (ways * s) (set_size (length rows)) none;
      };
      fits = λ room. dropped;
    }

module _ (rows other : List FloorRow) (long : length other ≡ length rows) (each : (i : ℕ) → row_at other i ≡ unlisted (row_at rows i)) where
  row_back : (x : KeyMark) (i : ℕ) → IsRowOf other x i → IsRowOf rows x i
  row_back x i r = record {
    within = omega (arith, long, r.within);
    taken = sym (ap (λ (q : FloorRow). q.is_taken) (each i)) ∙ r.taken;
    mark_is = sym (ap (λ (q : FloorRow). q.mark) (each i)) ∙ r.mark_is;
  }

  row_on : (x : KeyMark) (i : ℕ) → IsRowOf rows x i → IsRowOf other x i
  row_on x i r = record {
    within = omega (arith, long, r.within);
    taken = ap (λ (q : FloorRow). q.is_taken) (each i) ∙ r.taken;
    mark_is = ap (λ (q : FloorRow). q.mark) (each i) ∙ r.mark_is;
  }

  covered_on : (common commit : ℕ) (x : KeyMark) → IsCovered rows common x commit → IsCovered other common x commit
  covered_on common commit x (inl low) = inl low
  covered_on common commit x (inr (i, (r, low))) = inr (i, (row_on x i r, (let same = ap (λ (q : FloorRow). q.commit) (each i) in omega (arith, same, low))))

  -- the rows were taken off the whitelist, and pages are counted anew
  pub unlisted_past : (f g : Floors) (past : List (Event KeyMark)) → HasPast f rows past →
      g.common ≡ f.common → g.writes ≡ f.writes → g.reads ≡ f.reads → g.pages ≡ 1 → g.has_dropped ≡ f.has_dropped → HasPast g other (paged ∷ past)
  unlisted_past f g past had common writes reads pages dropped = record {
    one = λ x i j a b. had.one x i j (row_back x i a) (row_back x j b);
    home = λ x i r. subst (λ (n : ℕ). IsInSet n (set_of n x) i) (sym long) (had.home x i (row_back x i r));
    known = λ x i r. had.known x i (row_back x i r);
    written = writes ∙ had.written;
    was_read = reads ∙ had.was_read;
    common = omega (arith, common, had.common);
    covered = λ x. subst (λ (c : ℕ). IsCovered other c x (greatest (commits_of same_mark x (reads_of past)))) (sym common)
        (covered_on f.common (greatest (commits_of same_mark x (reads_of past))) x (had.covered x));
    sound = λ x i r. (let same = ap (λ (q : FloorRow). q.commit) (each i) in let was = had.sound x i (row_back x i r) in omega (arith, same, was));
    some_pages = omega (arith, pages);
    old_pages = λ x i r. (let zero_now = ap (λ (q : FloorRow). q.listed_at) (each i) in omega (arith, zero_now, pages));
    listings = λ x i r at. absurd (let zero_now = ap (λ (q : FloorRow). q.listed_at) (each i) in omega (arith, zero_now, pages, at));
    keeps = λ kept. (let old = had.keeps (sym dropped ∙ kept) in record {
      none = common ∙ old.none;
      listed = λ x l. absurd (let no : ◌≡◌ {A = Bool} false true = l in cc);
      kept = λ x l. (let at = old.kept x l in (at.0, row_on x at.0 at.1));
      counted = subst (λ (n : ℕ). (s : ℕ) → s < set_count n → taken_from other (ways * s) (set_size n) ≡ crowd n s past) (sym long)
          (λ s below. taken_same rows other (ways * s) (set_size (length rows)) (λ j low high. ap (λ (q : FloorRow). q.is_taken) (each j)) ∙ old.counted s below);
    });
    fits = λ room. dropped ∙ had.fits (subst (λ (n : ℕ). HasRoomFor n past) long room);
  }

-- ---- events

-- a read
pub read_adds : (past : List (Event KeyMark)) (mark : KeyMark) (commit pages : ℕ) → 0 < pages →
    Adds past (read mark commit ∷ past) (record { mark = mark; commit = commit; listed_at = 0; is_taken = true }) pages
read_adds past mark commit pages some = record {
  writes = refl;
  keys = refl;
  all = refl;
  own = own_more mark commit (reads_of past);
  others = λ x other. other_more x mark commit (reads_of past) other;
  listed_more = λ x l. l;
  listed_own = λ zero. absurd (omega (arith, zero, some));
  listed_less = λ x l. inl l;
}

-- a key is whitelisted
pub listed_adds : (past : List (Event KeyMark)) (mark : KeyMark) (pages : ℕ) →
    Adds past (listed mark ∷ past) (record { mark = mark; commit = 0; listed_at = pages; is_taken = true }) pages
listed_adds past mark pages = record {
  writes = refl;
  keys = refl;
  all = omega arith;
  own = omega arith;
  others = λ x other. refl;
  listed_more = λ x l. or_second (same_mark x mark) (is_listed same_mark past x) l;
  listed_own = λ at. or_first (same_mark mark mark) (is_listed same_mark past mark) (same_mark-refl mark);
  listed_less = λ x l. elim (or_either (same_mark x mark) (is_listed same_mark past x) l) [
    | inl was ↦ inl was
    | inr same ↦ inr (same_mark-true x mark same, refl)
  ];
}

-- ---- floors

-- what a mark's row holds is of the mark's reads
held_le : (f : Floors) (rows : List FloorRow) (past : List (Event KeyMark)) (mark : KeyMark) (held : ℕ) →
    HasPast f rows past → HoldsCommit rows mark held → held ≤ greatest (commits_of same_mark mark (reads_of past))
held_le f rows past mark held had (inl none) = (let zero = none.1 in omega (arith, zero))
held_le f rows past mark held had (inr (k, (r, is))) = (let sound = had.sound mark k r in omega (arith, is, sound))

-- and they are covered by it or by the common floor
held_covers : (f : Floors) (rows : List FloorRow) (past : List (Event KeyMark)) (mark : KeyMark) (held : ℕ) →
    HasPast f rows past → HoldsCommit rows mark held → IsCovered rows f.common mark (greatest (commits_of same_mark mark (reads_of past))) →
    greatest (commits_of same_mark mark (reads_of past)) ≤ max f.common held
held_covers f rows past mark held had holds (inl low) = omega (arith, low)
held_covers f rows past mark held had (inl none) (inr (i, (r, low))) = absurd (none.0 i (had.home mark i r) r)
held_covers f rows past mark held had (inr (k, (s, is))) (inr (i, (r, low))) =
    let same = ap (λ (m : ℕ). (row_at rows m).commit) (had.one mark k i s r) in
    omega (arith, is, low, same)

pub floor_least : (f : Floors) (rows : List FloorRow) (past : List (Event KeyMark)) (l : Level) (mark : KeyMark) (held : ℕ) →
    HasPast f rows past → HoldsCommit rows mark held → floor_of same_mark l past mark ≤ floor_from f l held
floor_least f rows past level.Session mark held had holds = (let covers = held_covers f rows past mark held had holds (had.covered mark) in omega (arith, covers, had.written))
floor_least f rows past level.Causal mark held had holds = omega (arith, had.written, had.was_read)
floor_least f rows past level.Strong mark held had holds = omega (arith, had.written, had.was_read)

pub floor_most : (f : Floors) (rows : List FloorRow) (past : List (Event KeyMark)) (l : Level) (mark : KeyMark) (held : ℕ) →
    HasPast f rows past → HoldsCommit rows mark held → floor_from f l held ≤ floor_of same_mark level.Causal past mark
floor_most f rows past level.Session mark held had holds =
    let le = held_le f rows past mark held had holds in
    let among = commits_le_all mark (reads_of past) in
    omega (arith, le, among, had.written, had.common)
floor_most f rows past level.Causal mark held had holds = omega (arith, had.written, had.was_read)
floor_most f rows past level.Strong mark held had holds = omega (arith, had.written, had.was_read)

pub floor_exact : (f : Floors) (rows : List FloorRow) (past : List (Event KeyMark)) (l : Level) (mark : KeyMark) (held : ℕ) →
    HasPast f rows past → HoldsCommit rows mark held → f.has_dropped ≡ false → floor_from f l held ≡ floor_of same_mark l past mark
floor_exact f rows past level.Session mark held had holds none =
    let le = held_le f rows past mark held had holds in
    let covers = held_covers f rows past mark held had holds (had.covered mark) in
    let zero = (had.keeps none).none in
    omega (arith, le, covers, zero, had.written)
floor_exact f rows past level.Causal mark held had holds none = omega (arith, had.written, had.was_read)
floor_exact f rows past level.Strong mark held had holds none = omega (arith, had.written, had.was_read)
