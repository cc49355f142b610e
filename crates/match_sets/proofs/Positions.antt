-- What a binary search finds among rows that are in order.
use Rattle.std.proofs.Common.{◌≡◌, ℕ, zero, suc, ◌+◌, ◌<◌, ◌≤◌, List, [], ◌∷◌, length, get_or, Bool, true, false, not, ◌&&◌, inl, inr, Option, None, Some, slice_get, refl, sym, ap, ◌∙◌, subst, arith}
use Rattle.std.specs.List.{filter, insert, remove}
use Rattle.std.specs.List.Sorted.{IsPartitionedBy, IsPartitionPoint}
use Rattle.std.specs.Ordering.{is_lt}
use Rattle.std.specs.Cmp.{IsStrictWeakOrder}
use Rattle.std.specs.Str.{bytes_eq}
use Rattle.std.proofs.lemmas.Bool.{cases_Bool}
use Rattle.std.proofs.lemmas.Cmp.{tied_itself}
use Rattle.std.proofs.lemmas.List.Sorted.{ranks_by}
use Rattle.std.proofs.lemmas.Slice.Eq.{bytes_eq-Decides}
use Rattle.q_doc.specs.Tree.{Tree}
use Rattle.query_core.specs.Changes.{is_of, without}
use Rattle.query_core.specs.Window.{Row, Order, rows_cmp, placed, in_order}
use Rattle.commit_book.specs.declared.change.CommitRow.{CommitRow}
use Rattle.match_sets.specs.Rows.{HasOld, IsReady, others, count_of, is_of_some}
use Rattle.std.proofs.lemmas.List.Edits.{length-remove}
use Rattle.std.proofs.lemmas.Option.{slice_get_within, slice_get_read}
use Rattle.query_core.proofs.Rising.{Under, Rises, in_order_rises}
use Rattle.query_core.proofs.RowOrder.{rows_cmp_total}
use Rattle.query_core.proofs.WindowLemmas.{tied_ids}

-- ---- tests

pub not_true : (b : Bool) → not b ≡ true → b ≡ false
not_true true e = absurd (cc)
not_true false e = refl

pub not_false : (b : Bool) → not b ≡ false → b ≡ true
not_false true e = refl
not_false false e = absurd (cc)

-- what no item passes leaves all by its opposite
pub filter_none : {X : Type 0} (t : X → Bool) (xs : List X) → filter t xs ≡ [] → filter (λ x. not (t x)) xs ≡ xs
filter_none t [] e = refl
filter_none t (x ∷ xs) e =
    elim (cases_Bool (t x)) [
      | inl f ↦ absurd (let g : x ∷ filter t xs ≡ [] = rw f at e in cc)
      | inr f ↦ (let g : filter t xs ≡ [] = rw f at e in rw f (ap (λ l. x ∷ l) (filter_none t xs g)))
    ]

-- the first of those that pass passes
pub first_passes : {X : Type 0} (t : X → Bool) (xs : List X) (y : X) (ys : List X) → filter t xs ≡ y ∷ ys → t y ≡ true
first_passes t [] y ys e = absurd (cc)
first_passes t (x ∷ xs) y ys e =
    elim (cases_Bool (t x)) [
      | inl f ↦ (let g : x ∷ filter t xs ≡ y ∷ ys = rw f at e in let same : x ≡ y = cc in subst (λ z. t z ≡ true) same f)
      | inr f ↦ (let g : filter t xs ≡ y ∷ ys = rw f at e in first_passes t xs y ys g)
    ]

-- where none passes, none that is there does
pub none_there : {X : Type 0} (t : X → Bool) (xs : List X) (i : ℕ) (y : X) → filter t xs ≡ [] → slice_get xs i ≡ Some y → t y ≡ true → ⊥
none_there t [] i y none there own = absurd (cc)
none_there t (x ∷ xs) zero y none there own =
    let same : x ≡ y = cc in
    let f : t x ≡ true = subst (λ z. t z ≡ true) (sym same) own in
    absurd (let g : x ∷ filter t xs ≡ [] = rw f at none in cc)
none_there t (x ∷ xs) (suc i) y none there own =
    elim (cases_Bool (t x)) [
      | inl f ↦ absurd (let g : x ∷ filter t xs ≡ [] = rw f at none in cc)
      | inr f ↦ none_there t xs i y (rw f at none) there own
    ]

-- where one passes, what passes is that one
pub only_there : {X : Type 0} (t : X → Bool) (xs : List X) (i : ℕ) (y z : X) → filter t xs ≡ z ∷ [] → slice_get xs i ≡ Some y → t y ≡ true → y ≡ z
only_there t [] i y z one there own = absurd (cc)
only_there t (x ∷ xs) zero y z one there own =
    let same : x ≡ y = cc in
    let f : t x ≡ true = subst (λ w. t w ≡ true) (sym same) own in
    let g : x ∷ filter t xs ≡ z ∷ [] = rw f at one in
    (let head : x ≡ z = cc in sym same ∙ head)
only_there t (x ∷ xs) (suc i) y z one there own =
    elim (cases_Bool (t x)) [
      | inl f ↦ absurd (let g : x ∷ filter t xs ≡ z ∷ [] = rw f at one in let none : filter t xs ≡ [] = cc in none_there t xs i y none there own)
      | inr f ↦ only_there t xs i y z (rw f at one) there own
    ]

module _ (order : Order) where
  abbrev pub less : Row → Row → Bool
  less a b = is_lt (rows_cmp order a b)

  pub ranks : IsStrictWeakOrder less
  ranks = ranks_by (rows_cmp_total order) (λ x. x)

  pub not_itself : (a : Row) → less a a ≡ false
  not_itself a = ap is_lt (tied_itself (rows_cmp_total order) a)

  abbrev pub Up : List Row → Type 0
  Up rows = Rises (rows_cmp order) (rows_cmp_total order) rows

  abbrev pub Above : Row → List Row → Type 0
  Above row rows = Under (rows_cmp order) (rows_cmp_total order) row rows

  pub rises_from_order : (rows : List Row) → in_order (rows_cmp order) rows ≡ rows → Up rows
  rises_from_order rows e = subst Up e (in_order_rises (rows_cmp order) (rows_cmp_total order) rows)

  -- ---- rows that rise are parted by what comes before a row, and by what does not come behind it

  above_at : (row : Row) (rows : List Row) → Above row rows → (k : ℕ) (d : Row) → k < length rows → less (get_or rows k d) row ≡ false
  above_at row [] u k d low = absurd (omega arith)
  above_at row (x ∷ xs) u zero d low = u.0
  above_at row (x ∷ xs) u (suc k) d low = above_at row xs u.1 k d (omega arith)

  far : (rows : List Row) → Up rows → (i j : ℕ) (d : Row) → i ≤ j → j < length rows → less (get_or rows j d) (get_or rows i d) ≡ false
  far [] r i j d le low = absurd (omega arith)
  far (x ∷ xs) r zero zero d le low = not_itself x
  far (x ∷ xs) r zero (suc j) d le low = above_at x xs r.0 j d (omega arith)
  far (x ∷ xs) r (suc i) zero d le low = absurd (omega arith)
  far (x ∷ xs) r (suc i) (suc j) d le low = far xs r.1 i j d (omega arith) (omega arith)

  pub parted_before : (probe : Row) (rows : List Row) → Up rows → IsPartitionedBy (λ x. less x probe) rows
  parted_before probe rows r i j d le low e =
      elim (cases_Bool (less (get_or rows i d) probe)) [
        | inl f ↦ f
        | inr f ↦ absurd (let g = ranks.chain (get_or rows j d) (get_or rows i d) probe (far rows r i j d le low) f in cc)
      ]

  pub parted_behind : (new : Row) (rows : List Row) → Up rows → IsPartitionedBy (λ x. not (less new x)) rows
  parted_behind new rows r i j d le low e =
      let behind : less new (get_or rows j d) ≡ false = not_true (less new (get_or rows j d)) e in
      ap not (ranks.chain new (get_or rows j d) (get_or rows i d) behind (far rows r i j d le low))

  -- ---- the old row

  -- where no row comes before one of those, none of those that pass a test does
  above_filter : (t : Row → Bool) (row : Row) (rows : List Row) → Above row rows → Above row (filter t rows)
  above_filter t row [] u = tt
  above_filter t row (x ∷ xs) u = elim (cases_Bool (t x)) [ inl e ↦ rw e (u.0, above_filter t row xs u.1) | inr e ↦ rw e (above_filter t row xs u.1) ]

  pub tie : (a b : Row) → less a b ≡ false → less b a ≡ false → bytes_eq a.0 b.0 ≡ true
  tie a b e f = tied_ids order a b (let g : (not (less a b) && not (less b a)) ≡ true = rw (e, f) in g)

  -- the first of those that are not before the probe is the row of the id
  pub taken_at : (id : List ℕ) (old probe : Row) (rows : List Row) (i : ℕ) → ((x : Row) → less x probe ≡ less x old) → Up rows → filter (is_of id) rows ≡ old ∷ []
      → IsPartitionPoint (λ x. less x probe ≡ true) (λ x. less x probe ≡ false) rows i → (slice_get rows i ≡ Some old) × (remove rows i ≡ without id rows)
  taken_at id old probe [] i same r e point = absurd (cc)
  taken_at id old probe (x ∷ xs) zero same r e point =
      let late : less x old ≡ false = sym (same x) ∙ point.1 zero x (omega arith) (omega arith) in
      elim (cases_Bool (is_of id x)) [
        | inl f ↦
            let g : x ∷ filter (is_of id) xs ≡ old ∷ [] = rw f at e in
            let head : x ≡ old = cc in
            let none : filter (is_of id) xs ≡ [] = cc in
            (ap Some head, rw f (sym (filter_none (is_of id) xs none)))
        | inr f ↦ absurd (
            let g : filter (is_of id) xs ≡ old ∷ [] = rw f at e in
            let above : Above x (old ∷ []) = subst (λ (l : List Row). Above x l) g (above_filter (is_of id) x xs r.0) in
            let own : is_of id old ≡ true = first_passes (is_of id) xs old [] g in
            let ids : x.0 ≡ old.0 = (bytes_eq-Decides x.0 old.0).0 (tie x old late above.0) in
            let clash : bytes_eq x.0 id ≡ true = ap (λ (y : List ℕ). bytes_eq y id) ids ∙ own in
            cc
            )
      ]
  taken_at id old probe (x ∷ xs) (suc i) same r e point =
      let early : less x old ≡ true = sym (same x) ∙ point.0 zero x (omega arith) (omega arith) in
      elim (cases_Bool (is_of id x)) [
        | inl f ↦ absurd (
            let g : x ∷ filter (is_of id) xs ≡ old ∷ [] = rw f at e in
            let head : x ≡ old = cc in
            let itself : less old old ≡ true = subst (λ y. less y old ≡ true) head early in
            let never = not_itself old in
            cc
            )
        | inr f ↦
            let g : filter (is_of id) xs ≡ old ∷ [] = rw f at e in
            let rest =
            taken_at id old probe xs i same r.1 g
            ((λ k d low high. point.0 (suc k) d (omega arith) (omega arith)), (λ k d low high. point.1 (suc k) d (omega arith) (omega arith))) in
            (rest.0, rw f (ap (λ l. x ∷ l) rest.1))
      ]

  -- ---- the new row

  pub placed_at : (new : Row) (rows : List Row) (i : ℕ) → i ≤ length rows → IsPartitionPoint (λ x. not (less new x) ≡ true) (λ x. not (less new x) ≡ false) rows i
      → insert rows i new ≡ placed (rows_cmp order) rows new
  placed_at new [] zero within point = refl
  placed_at new [] (suc i) within point = absurd (omega arith)
  placed_at new (x ∷ xs) zero within point =
      let e : less new x ≡ true = not_false (less new x) (point.1 zero x (omega arith) (omega arith)) in rw e refl
  placed_at new (x ∷ xs) (suc i) within point =
      let e : less new x ≡ false = not_true (less new x) (point.0 zero x (omega arith) (omega arith)) in
      let rest =
      placed_at new xs i (omega arith)
      ((λ k d low high. point.0 (suc k) d (omega arith) (omega arith)), (λ k d low high. point.1 (suc k) d (omega arith) (omega arith))) in
      rw e (ap (λ l. x ∷ l) rest)

-- ---- as the code finds them

-- the position of a document of this id, as a search gives it
abbrev pub IsOldAt : Order → List ℕ → Tree → ℕ → List Row → Type 0
IsOldAt order id document i rows = in_order (rows_cmp order) rows ≡ rows → IsPartitionPoint (λ x. less order x (id, 0, document) ≡ true) (λ x. less order x (id, 0, document) ≡ false) rows i

-- the position of a new row
abbrev pub IsNewAt : Order → Row → ℕ → List Row → Type 0
IsNewAt order new i rows = (i ≤ length rows) × (in_order (rows_cmp order) rows ≡ rows → IsPartitionPoint (λ x. not (less order new x) ≡ true) (λ x. not (less order new x) ≡ false) rows i)

pub placed_found : (order : Order) (new : Row) (i : ℕ) (slice rows : List Row) → slice ≡ rows → IsNewAt order new i slice → in_order (rows_cmp order) rows ≡ rows → insert rows i new ≡ placed (rows_cmp order) rows new
placed_found order new i slice rows same found up = (let there = subst (IsNewAt order new i) same found in placed_at order new rows i there.0 (there.1 up))

module _ (order : Order) (id : List ℕ) (document : Tree) (rows : List Row) (i : ℕ) (up : in_order (rows_cmp order) rows ≡ rows) (point : IsPartitionPoint (λ x. less order x (id, 0, document) ≡ true) (λ x. less order x (id, 0, document) ≡ false) rows i) where
  -- the version does not count
  same_probe : (version : ℕ) (x : Row) → less order x (id, 0, document) ≡ less order x (id, version, document)
  same_probe version x = refl

  found_at : (version : ℕ) → filter (is_of id) rows ≡ (id, version, document) ∷ [] → (slice_get rows i ≡ Some (id, version, document)) × (remove rows i ≡ without id rows)
  found_at version one = taken_at order id (id, version, document) (id, 0, document) rows i (same_probe version) (rises_from_order order rows up) one point

  -- a row of the id stands there: then it is taken out with all of its id
  pub taken_out : HasOld id (Some document) rows → (x : Row) → slice_get rows i ≡ Some x → is_of id x ≡ true → remove rows i ≡ without id rows
  taken_out (inl none) x there own = absurd (none_there (is_of id) rows i x none there own)
  taken_out (inr (tree, is, (version, one))) x there own =
      let same : tree ≡ document = cc in
      (found_at version (subst (λ (t : Tree). filter (is_of id) rows ≡ (id, version, t) ∷ []) same one)).1

  -- none stands there: then there is none
  pub left_in : HasOld id (Some document) rows → ((x : Row) → slice_get rows i ≡ Some x → is_of id x ≡ false) → rows ≡ without id rows
  left_in (inl none) other = sym (filter_none (is_of id) rows none)
  left_in (inr (tree, is, (version, one))) other = absurd (
      let same : tree ≡ document = cc in
      let at = (found_at version (subst (λ (t : Tree). filter (is_of id) rows ≡ (id, version, t) ∷ []) same one)).0 in
      let off : is_of id (id, version, document) ≡ false = other (id, version, document) at in
      let on : is_of id (id, version, document) ≡ true = (bytes_eq-Decides id id).1 refl in
      cc
      )

  -- whether the found row is of the id decides how many are left without it
  pub counted_at : HasOld id (Some document) rows → length rows ≡ length (without id rows) + count_of (is_of_some id (slice_get rows i))
  counted_at old = by (slice_get rows i) refl
    where
      none_more : rows ≡ without id rows → length rows ≡ length (without id rows) + 0
      none_more same = (let n = ap length same in omega (arith, n))

      by : (found : Option Row) → slice_get rows i ≡ found → length rows ≡ length (without id rows) + count_of (is_of_some id found)
      by None at = none_more (left_in old (λ x there. absurd (cc)))
      by (Some x) at =
          elim (cases_Bool (is_of id x)) [
            | inl own ↦ rw own (
                let gone = ap length (taken_out old x at own) in
                let n = length-remove rows i (slice_get_within rows i x at) in
                omega (arith, gone, n)
                )
            | inr other ↦ rw other (none_more (left_in old (λ y there. (let same : x ≡ y = cc in subst (λ z. is_of id z ≡ false) same other))))
          ]

  pub gone_at : HasOld id (Some document) rows → is_of_some id (slice_get rows i) ≡ true → remove rows i ≡ without id rows
  gone_at old here = by (slice_get rows i) refl here
    where
      by : (found : Option Row) → slice_get rows i ≡ found → is_of_some id found ≡ true → remove rows i ≡ without id rows
      by None at own = absurd (cc)
      by (Some x) at own = taken_out old x at own

  pub none_at : HasOld id (Some document) rows → is_of_some id (slice_get rows i) ≡ false → rows ≡ without id rows
  none_at old here = left_in old (λ x there. ap (is_of_some id) (sym there) ∙ here)

-- where the commit had no document before, none is taken out
pub none_left : (order : Order) (row : CommitRow) (before : Bool) (rows : List Row) → row.before ≡ None → IsReady order row before rows → rows ≡ others before row.id rows
none_left order row false rows is ready = refl
none_left order row true rows is ready = by (subst (λ (d : Option Tree). HasOld row.id d rows) is (ready.old refl))
  where
    by : HasOld row.id None rows → rows ≡ without row.id rows
    by (inl none) = sym (filter_none (is_of row.id) rows none)
    by (inr (tree, same, there)) = absurd (cc)

pub counted_found : (order : Order) (id : List ℕ) (document : Tree) (rows : List Row) (i : ℕ) (here : Bool) → IsOldAt order id document i rows → here ≡ is_of_some id (slice_get rows i) → in_order (rows_cmp order) rows ≡ rows → HasOld id (Some document) rows
    → length rows ≡ length (without id rows) + count_of here
counted_found order id document rows i here point is up old = subst (λ (b : Bool). length rows ≡ length (without id rows) + count_of b) (sym is) (counted_at order id document rows i up (point up) old)

pub gone_found : (order : Order) (id : List ℕ) (document : Tree) (slice rows : List Row) (i : ℕ) → slice ≡ rows → IsOldAt order id document i slice → is_of_some id (slice_get rows i) ≡ true → in_order (rows_cmp order) rows ≡ rows → HasOld id (Some document) rows → remove rows i ≡ without id rows
gone_found order id document slice rows i same point here up old = gone_at order id document rows i up (subst (IsOldAt order id document i) same point up) old here

pub none_found : (order : Order) (id : List ℕ) (document : Tree) (slice rows : List Row) (i : ℕ) → slice ≡ rows → IsOldAt order id document i slice → is_of_some id (slice_get rows i) ≡ false → in_order (rows_cmp order) rows ≡ rows → HasOld id (Some document) rows → rows ≡ without id rows
none_found order id document slice rows i same point here up old = none_at order id document rows i up (subst (IsOldAt order id document i) same point up) old here

-- the row that is taken out is of the id
pub own_found : (id : List ℕ) (rows : List Row) (i : ℕ) (x : Row) → is_of_some id (slice_get rows i) ≡ true → x ≡ get_or rows i x → x.0 ≡ id
own_found id rows i x here value = by (slice_get rows i) refl here
  where
    by : (found : Option Row) → slice_get rows i ≡ found → is_of_some id found ≡ true → x.0 ≡ id
    by None at own = absurd (cc)
    by (Some y) at own =
        let inside = slice_get_within rows i y at in
        let same : slice_get rows i ≡ Some x = slice_get_read rows (length rows) i x refl inside value in
        let e : y ≡ x = cc in
        ap (λ (r : Row). r.0) (sym e) ∙ (bytes_eq-Decides y.0 id).0 own
