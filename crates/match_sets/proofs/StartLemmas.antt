-- The first rows of a window without skip, and the rows of a window one by one.
use Rattle.std.proofs.Common.{◌≡◌, ◌⊎◌, inl, inr, Bool, true, false, le-leb, ℕ, zero, suc, ◌+◌, ◌<◌, ◌≤◌, min, leb, List, [], ◌∷◌, ◌++◌, length, take, drop, None, slice_get, refl, sym, ap, ◌∙◌, arith, length-take, take-append-drop, take-take, leb-true, leb-false}
use Rattle.std.proofs.lemmas.Bool.{cases_Bool, lt-leb}
use Rattle.std.proofs.lemmas.List.{drop_all}
use Rattle.query_core.specs.declared.query.Query.{Query}
use Rattle.query_core.specs.Window.{Row, matches}
use Rattle.match_sets.specs.Contents.{Contents, HasFirst, most_rows, window_of}

-- the rows of two queries with one filter and one order are the same
pub same_matches : (q wide : Query) (docs : List Row) → wide.filter ≡ q.filter → wide.order ≡ q.order → matches wide docs ≡ matches q docs
same_matches q wide docs filter order =
    ap (λ f. matches (record wide { filter = f }) docs) filter ∙ ap (λ o. matches (record wide { filter = q.filter; order = o }) docs) order

-- one row more than are kept shows whether these are all
pub started : (set : Contents) (all found : List Row) (most : ℕ) → most ≡ most_rows set.query → found ≡ take (most + 1) all → set.rows ≡ take most found → set.whole ≡ leb (length found) most
    → (set.rows ≡ take most all) × HasFirst set all
started set all found most limit found_is rows whole = (
  rows_are,
  record {
    rest = drop most all;
    parts = sym (take-append-drop most all) ∙ ap (λ l. l ++ drop most all) (sym rows_are);
    whole = λ w. (let few = leb-true (length found) most (sym whole ∙ w) in drop_all most all (omega (arith, few, size)));
    window = λ part. (let many = leb-false (length found) most (sym whole ∙ part) in let kept = ap length rows_are ∙ length-take most all in omega (arith, many, size, kept, limit));
    most = (let kept = ap length rows_are ∙ length-take most all in omega (arith, kept, limit));
  },
)
  where
    size : length found ≡ min (most + 1) (length all)
    size = ap length found_is ∙ length-take (most + 1) all

    rows_are : set.rows ≡ take most all
    rows_are = rows ∙ ap (take most) found_is ∙ take-take most (most + 1) all (omega arith)

-- so the set is whole exactly where all rows are within the most that are kept
pub started_whole : (all found : List Row) (most : ℕ) (whole : Bool) → found ≡ take (most + 1) all → whole ≡ leb (length found) most → whole ≡ leb (length all) most
started_whole all found most whole found_is is = is ∙ by (cases_Bool (leb (length all) most))
  where
    size : length found ≡ min (most + 1) (length all)
    size = ap length found_is ∙ length-take (most + 1) all

    by : (leb (length all) most ≡ true) ⊎ (leb (length all) most ≡ false) → leb (length found) most ≡ leb (length all) most
    by (inl few) = (let le = leb-true (length all) most few in le-leb (length found) most (omega (arith, le, size)) ∙ sym few)
    by (inr many) = (let lt = leb-false (length all) most many in lt-leb (length found) most (omega (arith, lt, size)) ∙ sym many)

-- ---- the rows of a window

pub get_take : {X : Type 0} (n : ℕ) (xs : List X) (i : ℕ) → i < n → slice_get (take n xs) i ≡ slice_get xs i
get_take zero xs i low = absurd (omega arith)
get_take (suc n) [] i low = refl
get_take (suc n) (x ∷ xs) zero low = refl
get_take (suc n) (x ∷ xs) (suc i) low = get_take n xs i (omega arith)

get_take_none : {X : Type 0} (n : ℕ) (xs : List X) (i : ℕ) → n ≤ i → slice_get (take n xs) i ≡ None
get_take_none zero xs i high = refl
get_take_none (suc n) [] i high = refl
get_take_none (suc n) (x ∷ xs) zero high = absurd (omega arith)
get_take_none (suc n) (x ∷ xs) (suc i) high = get_take_none n xs i (omega arith)

pub get_drop : {X : Type 0} (n : ℕ) (xs : List X) (i : ℕ) → slice_get (drop n xs) i ≡ slice_get xs (n + i)
get_drop zero xs i = (let e : i ≡ zero + i = omega arith in ap (slice_get xs) e)
get_drop (suc n) [] i = refl
get_drop (suc n) (x ∷ xs) i = (let e : suc (n + i) ≡ suc n + i = omega arith in get_drop n xs i ∙ ap (slice_get (x ∷ xs)) e)

-- the row at a position of the window
pub shown : (set : Contents) (i : ℕ) → i < set.query.take → slice_get (window_of set) i ≡ slice_get set.rows (set.query.skip + i)
shown set i low = get_take set.query.take (drop set.query.skip set.rows) i low ∙ get_drop set.query.skip set.rows i

pub not_shown : (set : Contents) (i : ℕ) → set.query.take ≤ i → slice_get (window_of set) i ≡ None
not_shown set i high = get_take_none set.query.take (drop set.query.skip set.rows) i high
