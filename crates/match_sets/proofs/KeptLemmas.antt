-- The first rows of a list in order follow a change of it.
use Rattle.std.proofs.Common.{◌≡◌, ◌⊎◌, ℕ, suc, ◌+◌, ◌-◌, ◌<◌, ◌≤◌, leb, List, [], ◌∷◌, ◌++◌, length, take, drop, Bool, true, false, not, ◌&&◌, inl, inr, Option, Some, None, slice_get, if◌then◌else◌, refl, sym, ap, ap₂, ◌∙◌, subst, subst₂, arith, append-nil, length-take, length-drop, take-append-drop, leb-true, leb-false}
use Rattle.std.specs.List.{filter, AllByRecursion}
use Rattle.std.proofs.lemmas.Bool.{cases_Bool, and_parts}
use Rattle.std.proofs.lemmas.List.{drop_all, take-append-le, drop-append-le}
use Rattle.std.proofs.lemmas.List.Elements.{filter-append}
use Rattle.std.proofs.lemmas.Slice.Eq.{bytes_eq-Decides}
use mathlib.Core.List.{append_assoc}
use Rattle.query_core.specs.declared.query.Query.{Query}
use Rattle.query_core.specs.Changes.{is_of, without, placed_if}
use Rattle.query_core.specs.Window.{Row, Order, rows_cmp, placed}
use Rattle.match_sets.specs.Rows.{others, last_of, reaches, kept_part}
use Rattle.match_sets.specs.Contents.{Contents, HasFirst, most_rows}
use Rattle.match_sets.proofs.Positions.{filter_none, less, ranks, not_itself, Up, Above, tie}

-- ---- a row put into two lists in a row

module _ (order : Order) (new : Row) where
  abbrev put_new : List Row → List Row
  put_new rows = placed (rows_cmp order) rows new

  -- it is before each of the second
  pub placed_front : (front back : List Row) → AllByRecursion (λ b. less order new b ≡ true) back → put_new (front ++ back) ≡ put_new front ++ back
  placed_front [] [] all = refl
  placed_front [] (b ∷ bs) all = rw all.0 refl
  placed_front (a ∷ front) back all =
      elim (cases_Bool (less order new a)) [ inl e ↦ rw e refl | inr e ↦ rw e (ap (λ l. a ∷ l) (placed_front front back all)) ]

  -- it is before none of the first
  pub placed_back : (front back : List Row) → AllByRecursion (λ a. less order new a ≡ false) front → put_new (front ++ back) ≡ front ++ put_new back
  placed_back [] back all = refl
  placed_back (a ∷ front) back all = rw all.0 (ap (λ l. a ∷ l) (placed_back front back all.1))

-- the last row is at the last position
pub last_get : (rows : List Row) → slice_get rows (length rows - 1) ≡ last_of rows
last_get [] = refl
last_get (x ∷ []) = refl
last_get (x ∷ y ∷ rows) =
    let one : suc (suc (length rows)) - 1 ≡ suc (length rows) = omega arith in
    let two : suc (length rows) - 1 ≡ length rows = omega arith in
    ap (slice_get (x ∷ y ∷ rows)) one ∙ ap (slice_get (y ∷ rows)) (sym two) ∙ last_get (y ∷ rows)

-- ---- what holds of parts

module _ (P Q : Row → Type 0) where
  all_follow : ((x : Row) → P x → Q x) → (rows : List Row) → AllByRecursion P rows → AllByRecursion Q rows
  all_follow h [] all = tt
  all_follow h (x ∷ xs) all = (h x all.0, all_follow h xs all.1)

  -- of those of other ids
  all_others : (id : List ℕ) → ((x : Row) → is_of id x ≡ false → P x → Q x) → (rows : List Row) → AllByRecursion P rows → AllByRecursion Q (without id rows)
  all_others id h [] all = tt
  all_others id h (x ∷ xs) all =
      elim (cases_Bool (is_of id x)) [ inl e ↦ rw e (all_others id h xs all.1) | inr e ↦ rw e (h x e all.0, all_others id h xs all.1) ]

module _ (P : Row → Type 0) where
  -- and so of the last
  all_last : (rows : List Row) (y : Row) → AllByRecursion P rows → last_of rows ≡ Some y → P y
  all_last [] y all e = absurd (cc)
  all_last (x ∷ []) y all e = (let same : x ≡ y = cc in subst P same all.0)
  all_last (x ∷ z ∷ xs) y all e = all_last (z ∷ xs) y all.1 e

module _ (order : Order) where
  -- the first part and the second of a list with no row before this one
  above_front : (row : Row) (front back : List Row) → Above order row (front ++ back) → AllByRecursion (λ a. less order a row ≡ false) front
  above_front row [] back u = tt
  above_front row (a ∷ front) back u = (u.0, above_front row front back u.1)

  above_back : (row : Row) (front back : List Row) → Above order row (front ++ back) → AllByRecursion (λ a. less order a row ≡ false) back
  above_back row [] [] u = tt
  above_back row [] (b ∷ bs) u = (u.0, above_back row [] bs u.1)
  above_back row (a ∷ front) back u = above_back row front back u.1

  -- the last row of the first part is before none of it, and no row of the second is before it
  last_front : (front back : List Row) (last : Row) → last_of front ≡ Some last → Up order (front ++ back) → AllByRecursion (λ a. less order last a ≡ false) front
  last_front [] back last e r = absurd (cc)
  last_front (a ∷ []) back last e r = (let same : a ≡ last = cc in (subst (λ x. less order x a ≡ false) same (not_itself order a), tt))
  last_front (a ∷ b ∷ front) back last e r =
      let tail : last_of (b ∷ front) ≡ Some last = e in
      (all_last (λ x. less order x a ≡ false) (b ∷ front) last (above_front a (b ∷ front) back r.0) tail, last_front (b ∷ front) back last tail r.1)

  last_back : (front back : List Row) (last : Row) → last_of front ≡ Some last → Up order (front ++ back) → AllByRecursion (λ b. less order b last ≡ false) back
  last_back [] back last e r = absurd (cc)
  last_back (a ∷ []) back last e r = (let same : a ≡ last = cc in subst (λ x. AllByRecursion (λ b. less order b x ≡ false) back) same (above_back a [] back r.0))
  last_back (a ∷ b ∷ front) back last e r = (let tail : last_of (b ∷ front) ≡ Some last = e in last_back (b ∷ front) back last tail r.1)

  -- a row that is not behind the last one is before the others that come behind it
  before_rest : (id : List ℕ) (new last b : Row) → new.0 ≡ id → less order last new ≡ false → is_of id b ≡ false → less order b last ≡ false → less order new b ≡ true
  before_rest id new last b own reached other behind =
      let back : less order b new ≡ false = (ranks order).chain b last new behind reached in
      elim (cases_Bool (less order new b)) [
        | inl e ↦ e
        | inr e ↦ absurd (
            let ids : b.0 ≡ new.0 = (bytes_eq-Decides b.0 new.0).0 (tie order b new back e) in
            let clash : is_of id b ≡ true = (bytes_eq-Decides b.0 id).1 (ids ∙ own) in
            cc
            )
      ]

  -- a row behind the last one is before none of those up to it
  behind_kept : (new last a : Row) → less order last new ≡ true → less order last a ≡ false → less order new a ≡ false
  behind_kept new last a far up = (ranks order).chain new last a ((ranks order).one_way last new far) up

-- ---- the kept rows and the rest after a change

-- After a change the first rows are those that are kept, and the rest follows.
pub record IsKept (order : Order) (whole : Bool) (kept : List Row) (all : List Row) : Type 0 where
  pub rest : List Row
  pub parts : all ≡ kept ++ rest
  pub none : whole ≡ true → rest ≡ []

others_append : (before : Bool) (id : List ℕ) (xs ys : List Row) → others before id (xs ++ ys) ≡ others before id xs ++ others before id ys
others_append true id xs ys = filter-append (λ row. not (is_of id row)) xs ys
others_append false id xs ys = refl

others_none : (before : Bool) (id : List ℕ) → others before id [] ≡ []
others_none true id = refl
others_none false id = refl

empty_last : (rows : List Row) → last_of rows ≡ None → rows ≡ []
empty_last [] e = refl
empty_last (x ∷ []) e = absurd (cc)
empty_last (x ∷ y ∷ rows) e = absurd (let none : y ∷ rows ≡ [] = empty_last (y ∷ rows) e in cc)

module _ (order : Order) (id : List ℕ) (kept rest : List Row) (up : Up order (kept ++ rest)) where
  -- of a whole set nothing is left over
  whole_step : (before : Bool) (new : Option Row) → rest ≡ [] → IsKept order true (placed_if (rows_cmp order) (others before id kept) new) (placed_if (rows_cmp order) (others before id (kept ++ rest)) new)
  whole_step before new none = record {
    rest = [];
    parts =
        ap (λ r. placed_if (rows_cmp order) (others before id (kept ++ r)) new) none
        ∙ ap (λ k. placed_if (rows_cmp order) (others before id k) new) (append-nil kept)
        ∙ sym (append-nil (placed_if (rows_cmp order) (others before id kept) new));
    none = λ w. refl;
  }

  -- no new row
  none_step : (before : Bool) → IsKept order false (others before id kept) (others before id (kept ++ rest))
  none_step before = record { rest = others before id rest; parts = others_append before id kept rest; none = λ w. absurd (cc) }

  abbrev put : Row → List Row → List Row
  put new rows = placed (rows_cmp order) rows new

  -- a new row that is not behind the last one goes among the kept ones
  front_step : (new last : Row) → new.0 ≡ id → last_of kept ≡ Some last → less order last new ≡ false → IsKept order false (put new (without id kept)) (put new (without id (kept ++ rest)))
  front_step new last own at reached = record {
    rest = without id rest;
    parts =
        ap (put new) (others_append true id kept rest)
        ∙ placed_front order new (without id kept) (without id rest)
        (all_others (λ b. less order b last ≡ false) (λ b. less order new b ≡ true) id (λ b other behind. before_rest order id new last b own reached other behind) rest (last_back order kept rest last at up));
    none = λ w. absurd (cc);
  }

  -- one that is behind it goes into the rest
  back_step : (before : Bool) (new last : Row) → last_of kept ≡ Some last → less order last new ≡ true → IsKept order false (others before id kept) (put new (others before id (kept ++ rest)))
  back_step true new last at far = record {
    rest = put new (without id rest);
    parts =
        ap (put new) (others_append true id kept rest)
        ∙ placed_back order new (without id kept) (without id rest) (all_others (λ a. less order last a ≡ false) (λ a. less order new a ≡ false) id (λ a other below. behind_kept order new last a far below) kept (last_front order kept rest last at up));
    none = λ w. absurd (cc);
  }
  back_step false new last at far = record {
    rest = put new rest;
    parts = placed_back order new kept rest (all_follow (λ a. less order last a ≡ false) (λ a. less order new a ≡ false) (λ a below. behind_kept order new last a far below) kept (last_front order kept rest last at up));
    none = λ w. absurd (cc);
  }

  -- the same of a row of whose id there was none
  new_step : (new last : Row) → new.0 ≡ id → filter (is_of id) (kept ++ rest) ≡ [] → last_of kept ≡ Some last → less order last new ≡ false → IsKept order false (put new kept) (put new (kept ++ rest))
  new_step new last own none at reached =
      let base = front_step new last own at reached in
      let all_stay : without id (kept ++ rest) ≡ kept ++ rest = filter_none (is_of id) (kept ++ rest) none in
      let kept_stay : without id kept ≡ kept = filter_none (is_of id) kept (front_none (filter (is_of id) kept) (filter (is_of id) rest) (sym (filter-append (is_of id) kept rest) ∙ none)) in
      record {
        rest = base.rest;
        parts = ap (put new) (sym all_stay) ∙ base.parts ∙ ap (λ l. put new l ++ base.rest) kept_stay;
        none = λ w. absurd (cc);
      }
    where
      front_none : (xs ys : List Row) → xs ++ ys ≡ [] → xs ≡ []
      front_none [] ys e = refl
      front_none (x ∷ xs) ys e = absurd (cc)

  -- of a set that is not whole
  part_step : (before : Bool) (new : Row) (last : Option Row) → last_of kept ≡ last → new.0 ≡ id → (before ≡ false → filter (is_of id) (kept ++ rest) ≡ [])
      → IsKept order false (placed_if (rows_cmp order) (others before id kept) (if reaches order last new then Some new else None)) (put new (others before id (kept ++ rest)))
  part_step before new None at own none =
      let empty : kept ≡ [] = empty_last kept at in
      record {
        rest = put new (others before id (kept ++ rest));
        parts = ap (λ l. l ++ put new (others before id (kept ++ rest))) (sym (ap (others before id) empty ∙ others_none before id));
        none = λ w. absurd (cc);
      }
  part_step before new (Some last) at own none =
      elim (cases_Bool (less order last new)) [
        | inl far ↦ rw far (back_step before new last at far)
        | inr reached ↦ rw reached (reached_step before none reached)
      ]
    where
      reached_step : (b : Bool) → (b ≡ false → filter (is_of id) (kept ++ rest) ≡ []) → less order last new ≡ false → IsKept order false (put new (others b id kept)) (put new (others b id (kept ++ rest)))
      reached_step true none reached = front_step new last own at reached
      reached_step false none reached = new_step new last own (none refl) at reached

  -- of any set
  pub kept_step : (whole before : Bool) (new : Option Row) → (whole ≡ true → rest ≡ []) → ((row : Row) → new ≡ Some row → row.0 ≡ id) → ((row : Row) → new ≡ Some row → before ≡ false → filter (is_of id) (kept ++ rest) ≡ [])
      → IsKept order whole (placed_if (rows_cmp order) (others before id kept) (kept_part order whole kept new)) (placed_if (rows_cmp order) (others before id (kept ++ rest)) new)
  kept_step true before None all own none = whole_step before None (all refl)
  kept_step true before (Some new) all own none = whole_step before (Some new) (all refl)
  kept_step false before None all own none = none_step before
  kept_step false before (Some new) all own none = part_step before new (last_of kept) refl (own new refl) (none new refl)

-- ---- the rows that are left

-- with the rows above the limit cut off
pub first_step : (old new : Contents) (all after : List Row) → new.query ≡ old.query → new.rows ≡ take (most_rows old.query) after → new.whole ≡ (old.whole && leb (length after) (most_rows old.query))
    → IsKept old.query.order old.whole after all → (old.whole ≡ false → old.query.skip + old.query.take ≤ length after) → HasFirst new all
first_step old new all after query rows whole kept enough =
    let limit = most_rows old.query in
    record {
      rest = drop limit after ++ kept.rest;
      parts =
          kept.parts
          ∙ ap (λ l. l ++ kept.rest) (sym (take-append-drop limit after))
          ∙ append_assoc (take limit after) (drop limit after) kept.rest
          ∙ ap (λ l. l ++ (drop limit after ++ kept.rest)) (sym rows);
      whole = λ w.
          let (was, few) = and_parts old.whole (leb (length after) limit) (sym whole ∙ w) in
          ap₂ (λ p q. p ++ q) (drop_all limit after (leb-true (length after) limit few)) (kept.none was);
      window = λ part. subst₂ (λ (q : Query) (l : List Row). q.skip + q.take ≤ length l) (sym query) (sym rows) (shown part (cases_Bool old.whole));
      most = subst₂ (λ (q : Query) (l : List Row). length l ≤ most_rows q) (sym query) (sym rows) (let e = length-take limit after in omega (arith, e));
    }
  where
    many : new.whole ≡ false → old.whole ≡ true → most_rows old.query < length after
    many part was =
        let e : leb (length after) (most_rows old.query) ≡ false = sym (ap (λ w. w && leb (length after) (most_rows old.query)) was) ∙ sym whole ∙ part in
        leb-false (length after) (most_rows old.query) e

    shown : new.whole ≡ false → (old.whole ≡ true) ⊎ (old.whole ≡ false) → old.query.skip + old.query.take ≤ length (take (most_rows old.query) after)
    shown part (inl was) = (let e = length-take (most_rows old.query) after in let l = many part was in omega (arith, e, l))
    shown part (inr not_whole) = (let e = length-take (most_rows old.query) after in let l = enough not_whole in omega (arith, e, l))

-- the window of the first rows is that of all
pub window_shown : (set : Contents) (all : List Row) → HasFirst set all → take set.query.take (drop set.query.skip set.rows) ≡ take set.query.take (drop set.query.skip all)
window_shown set all first = by (cases_Bool set.whole)
  where
    by : (set.whole ≡ true) ⊎ (set.whole ≡ false) → take set.query.take (drop set.query.skip set.rows) ≡ take set.query.take (drop set.query.skip all)
    by (inl w) = ap (λ l. take set.query.take (drop set.query.skip l)) (sym (first.parts ∙ ap (λ r. set.rows ++ r) (first.whole w) ∙ append-nil set.rows))
    by (inr part) =
        let long = first.window part in
        let rest = length-drop set.query.skip set.rows in
        sym (
        ap (λ l. take set.query.take (drop set.query.skip l)) first.parts
        ∙ ap (take set.query.take) (drop-append-le set.query.skip set.rows first.rest (omega (arith, long)))
        ∙ take-append-le set.query.take (drop set.query.skip set.rows) first.rest (omega (arith, long, rest))
        )
