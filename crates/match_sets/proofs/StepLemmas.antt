-- What a step says of the two windows is so.
use Rattle.std.proofs.Common.{◌≡◌, ◌⊎◌, ℕ, zero, suc, ◌+◌, ◌-◌, ◌<◌, ◌≤◌, leb, ltb, ◌==◌, List, [], ◌∷◌, length, take, drop, Bool, true, false, not, ◌&&◌, ◌||◌, inl, inr, Option, None, Some, option_map, option_and_then, is_some, IfSome, slice_get, refl, sym, ap, ap₂, ◌∙◌, subst, arith, leb-true, leb-false, ltb-true, ltb-false, eqb-true, eq-eqb, le-leb, lt-ltb, Decides}
use Rattle.std.specs.List.{filter, insert}
use Rattle.std.specs.Str.{bytes_eq}
use Rattle.std.proofs.lemmas.Bool.{cases_Bool, and_parts}
use Rattle.std.proofs.lemmas.List.{drop_all}
use Rattle.std.proofs.lemmas.Slice.Eq.{bytes_eq-Decides}
use Rattle.query_core.specs.Changes.{is_of}
use Rattle.query_core.specs.Window.{Row}
use Rattle.result_kinds.specs.Results.{ids_of}
use Rattle.match_sets.specs.declared.steps.Notice.{Notice}
use Rattle.match_sets.specs.Rows.{AreApart, IsPutAt}
use Rattle.match_sets.specs.Told.{shift, is_before, is_behind, shown_at, slid, name_of, shows_ids, shows_objects, step_of}
use Rattle.match_sets.specs.Windows.{position_of, has_id, has_slid, is_name, notice_of, IsStepBetween}
use Rattle.match_sets.proofs.TellLemmas.{moved, there_is, only_before, only_behind, only_none, is_at, has_is_some, position_insert, position_own, position_none, position_window, position_within, position_ids, in_part, shown_some, name_at, row_at, drop_before, window_behind, ids_window, not_below}

bytes_turned : (a b : List ℕ) → bytes_eq a b ≡ false → bytes_eq b a ≡ false
bytes_turned a b e = elim (cases_Bool (bytes_eq b a)) [ inl f ↦ absurd (let g : bytes_eq a b ≡ true = (bytes_eq-Decides a b).1 (sym ((bytes_eq-Decides b a).0 f)) in cc) | inr f ↦ f ]

own_id : (id : List ℕ) → bytes_eq id id ≡ true
own_id id = (bytes_eq-Decides id id).1 refl

not_id : (b : Bool) → not b ≡ true → b ≡ false
not_id true e = absurd (cc)
not_id false e = refl

-- where the window shows a position
part_shown : (skip count : ℕ) (p : Option ℕ) → in_part skip count p ≡ shown_at skip (skip + count) p
part_shown skip count None = refl
part_shown skip count (Some k) =
    elim (cases_Bool (leb skip k)) [
      | inl e ↦ (
          let low = leb-true skip k e in
          elim (cases_Bool (ltb (k - skip) count)) [
            | inl f ↦ (let m = ltb-true (k - skip) count f in let g : ltb k (skip + count) ≡ true = lt-ltb k (skip + count) (omega (arith, m, low)) in rw (e, f, g) refl)
            | inr f ↦ (let m = ltb-false (k - skip) count f in let g : ltb k (skip + count) ≡ false = not_below k (skip + count) (omega (arith, m, low)) in rw (e, f, g) refl)
          ]
          )
      | inr e ↦ rw e refl
    ]

-- ---- the rows with the written one at a position

-- They are the others with a row of the written id at the position, or the others where there is none; no id is twice.
pub record IsWith (written : List ℕ) (others : List Row) (position : Option ℕ) (row : Option Row) (rows : List Row) : Type 0 where
  pub put : IsPutAt others position row rows
  pub own : IfSome row (λ r. r.0 ≡ written)
  pub apart : AreApart rows

module _ (written : List ℕ) (others : List Row) (apart : AreApart others) (absent : filter (is_of written) others ≡ []) (skip count : ℕ) (some : 0 < count) where
  abbrev stop : ℕ
  stop = skip + count

  some_shown : skip < stop
  some_shown = omega (arith, some)

  abbrev window_in : List Row → List Row
  window_in rows = take count (drop skip rows)

  -- the position as a number; a row that is not there is behind all
  abbrev number : Option ℕ → ℕ
  number None = length others + stop
  number (Some k) = k

  before_number : (p : Option ℕ) → is_before skip p ≡ ltb (number p) skip
  before_number None = sym (not_below (length others + stop) skip (omega arith))
  before_number (Some k) = refl

  behind_number : (p : Option ℕ) → is_behind stop p ≡ leb stop (number p)
  behind_number None = sym (le-leb stop (length others + stop) (omega arith))
  behind_number (Some k) = refl

  shift_number : (p : Option ℕ) (k : ℕ) → k < length others → shift p k ≡ moved (number p) k
  shift_number None k low = (let e : ltb k (length others + stop) ≡ true = lt-ltb k (length others + stop) (omega (arith, low)) in rw e refl)
  shift_number (Some here) k low = refl

  -- where another id is
  position_other : (id : List ℕ) (p : Option ℕ) (row : Option Row) (rows : List Row) → IsWith written others p row rows → bytes_eq id written ≡ false
      → position_of id rows ≡ option_map (moved (number p)) (position_of id others)
  position_other id None None rows is other = ap (position_of id) is.put ∙ by (position_of id others) refl
    where
      by : (p : Option ℕ) → position_of id others ≡ p → p ≡ option_map (moved (number None)) p
      by None e = refl
      by (Some k) e = ap Some (shift_number None k (position_within id others k e))
  position_other id None (Some row) rows is other = absurd is.put
  position_other id (Some here) None rows is other = absurd is.put
  position_other id (Some here) (Some row) rows is other =
      ap (position_of id) is.put.1 ∙ position_insert id row others here (ap (λ (i : List ℕ). bytes_eq i id) is.own ∙ bytes_turned id written other) is.put.0

  -- whether a window has it
  abbrev shown_of : ℕ → Option ℕ → Bool
  shown_of here None = false
  shown_of here (Some k) = there_is skip stop some_shown here k

  has_other : (id : List ℕ) (p : Option ℕ) (row : Option Row) (rows : List Row) → IsWith written others p row rows → bytes_eq id written ≡ false
      → has_id id (window_in rows) ≡ shown_of (number p) (position_of id others)
  has_other id p row rows is other =
      has_is_some id (window_in rows)
      ∙ ap is_some (position_window id skip count rows is.apart ∙ ap (in_part skip count) (position_other id p row rows is other))
      ∙ by (position_of id others)
    where
      by : (r : Option ℕ) → is_some (in_part skip count (option_map (moved (number p)) r)) ≡ shown_of (number p) r
      by None = refl
      by (Some k) = shown_some skip count (moved (number p) k)

  -- the written row in a window
  position_written : (p : Option ℕ) (row : Option Row) (rows : List Row) → IsWith written others p row rows → position_of written (window_in rows) ≡ shown_at skip stop p
  position_written p row rows is = position_window written skip count rows is.apart ∙ ap (in_part skip count) (by p row is.put is.own) ∙ part_shown skip count p
    where
      by : (p : Option ℕ) (row : Option Row) → IsPutAt others p row rows → IfSome row (λ r. r.0 ≡ written) → position_of written rows ≡ p
      by None None put own = ap (position_of written) put ∙ position_none written others absent
      by None (Some row) put own = absurd put
      by (Some here) None put own = absurd put
      by (Some here) (Some row) put own =
          ap (position_of written) put.1
          ∙ subst (λ (i : List ℕ). position_of i (insert others here row) ≡ Some here) own
          (position_own row others here (subst (λ (i : List ℕ). filter (is_of i) others ≡ []) (sym own) absent) (own_id row.0) put.0)

  -- ---- the two windows

  module _ (old new : Option ℕ) (old_row new_row : Option Row) (rows_old rows_new rows : List Row) (h : IsWith written others old old_row rows_old) (t : IsWith written others new new_row rows_new) (found : (k : ℕ) → k < stop → slice_get rows (shift new k) ≡ slice_get others k) where
    abbrev before : List Row
    before = window_in rows_old

    abbrev after : List Row
    after = window_in rows_new

    abbrev name_at_slid : Option ℕ → Option (List ℕ)
    name_at_slid k = option_map (λ (row : Row). row.0) (option_and_then (λ (j : ℕ). slice_get others j) k)

    -- the name is that of one of the others
    name_there : (k : ℕ) → k < stop → name_of rows new (Some k) ≡ name_at_slid (Some k)
    name_there k low = ap (option_map (λ (row : Row). row.0)) (found k low)

    named : (id : List ℕ) (k : ℕ) → k < stop → is_name id (name_of rows new (Some k)) ≡ is_at k (position_of id others)
    named id k low = ap (is_name id) (name_there k low) ∙ name_at id others k apart

    -- the written id has not slid
    nowhere : (id : List ℕ) → bytes_eq id written ≡ true → (k : ℕ) → k < stop → is_name id (name_of rows new (Some k)) ≡ false
    nowhere id own k low =
        let same : id ≡ written = (bytes_eq-Decides id written).0 own in
        let none : position_of id others ≡ None = position_none id others (subst (λ (i : List ℕ). filter (is_of i) others ≡ []) (sym same) absent) in
        named id k low ∙ ap (is_at k) none

    -- the row that slid is the one that the windows do not share
    slid_is : (id : List ℕ) (here there : Option ℕ) → is_name id (name_of rows new (slid skip stop here there))
        ≡ (not (bytes_eq id written) && (shown_of (number here) (position_of id others) && not (shown_of (number there) (position_of id others))))
    slid_is id here there =
        elim (cases_Bool (bytes_eq id written)) [
          | inl own ↦ rw own (nowhere_slid own)
          | inr other ↦ rw other other_slid
        ]
      where
        nowhere_slid : bytes_eq id written ≡ true → is_name id (name_of rows new (slid skip stop here there)) ≡ false
        nowhere_slid own =
            elim (cases_Bool (is_before skip here && not (is_before skip there))) [
              | inl e ↦ rw e (nowhere id own (skip - 1) (omega (arith, some)))
              | inr e ↦ elim (cases_Bool (is_behind stop here && not (is_behind stop there))) [
                | inl f ↦ rw (e, f) (nowhere id own (stop - 1) (omega (arith, some)))
                | inr f ↦ rw (e, f) refl
              ]
            ]

        before_is : number here < skip → skip ≤ number there → (p : Option ℕ) → is_at (skip - 1) p ≡ (shown_of (number here) p && not (shown_of (number there) p))
        before_is low high None = refl
        before_is low high (Some k) = sym (only_before skip stop some_shown (number here) (number there) k low high)

        behind_is : stop ≤ number here → number there < stop → (p : Option ℕ) → is_at (stop - 1) p ≡ (shown_of (number here) p && not (shown_of (number there) p))
        behind_is high low None = refl
        behind_is high low (Some k) = sym (only_behind skip stop some_shown (number here) (number there) k high low)

        none_is : (number here < skip → number there < skip) → (stop ≤ number here → stop ≤ number there) → (p : Option ℕ) → false ≡ (shown_of (number here) p && not (shown_of (number there) p))
        none_is low high None = refl
        none_is low high (Some k) = sym (only_none skip stop some_shown (number here) (number there) k low high)

        stays_low : (is_before skip here && not (is_before skip there)) ≡ false → number here < skip → number there < skip
        stays_low e low =
            let f : is_before skip here ≡ true = before_number here ∙ lt-ltb (number here) skip low in
            elim (cases_Bool (is_before skip there)) [
              | inl g ↦ ltb-true (number there) skip (sym (before_number there) ∙ g)
              | inr g ↦ absurd (let clash : (is_before skip here && not (is_before skip there)) ≡ true = rw (f, g) refl in cc)
            ]

        stays_high : (is_behind stop here && not (is_behind stop there)) ≡ false → stop ≤ number here → stop ≤ number there
        stays_high e high =
            let f : is_behind stop here ≡ true = behind_number here ∙ le-leb stop (number here) high in
            elim (cases_Bool (is_behind stop there)) [
              | inl g ↦ leb-true stop (number there) (sym (behind_number there) ∙ g)
              | inr g ↦ absurd (let clash : (is_behind stop here && not (is_behind stop there)) ≡ true = rw (f, g) refl in cc)
            ]

        other_slid : is_name id (name_of rows new (slid skip stop here there)) ≡ (shown_of (number here) (position_of id others) && not (shown_of (number there) (position_of id others)))
        other_slid =
            elim (cases_Bool (is_before skip here && not (is_before skip there))) [
              | inl e ↦ (
                  let (x, y) = and_parts (is_before skip here) (not (is_before skip there)) e in
                  let low = ltb-true (number here) skip (sym (before_number here) ∙ x) in
                  let high = ltb-false (number there) skip (sym (before_number there) ∙ not_id (is_before skip there) y) in
                  rw e (named id (skip - 1) (omega (arith, some)) ∙ before_is low high (position_of id others))
                  )
              | inr e ↦ elim (cases_Bool (is_behind stop here && not (is_behind stop there))) [
                | inl f ↦ (
                    let (x, y) = and_parts (is_behind stop here) (not (is_behind stop there)) f in
                    let high = leb-true stop (number here) (sym (behind_number here) ∙ x) in
                    let low = leb-false stop (number there) (sym (behind_number there) ∙ not_id (is_behind stop there) y) in
                    rw (e, f) (named id (stop - 1) (omega (arith, some)) ∙ behind_is high low (position_of id others))
                    )
                | inr f ↦ rw (e, f) (none_is (stays_low e) (stays_high f) (position_of id others))
              ]
            ]

    -- the same in the words of the windows
    has_slid_is : (id : List ℕ) (here there : Option ℕ) (x y : Option Row) (xs ys : List Row) → IsWith written others here x xs → IsWith written others there y ys
        → is_name id (name_of rows new (slid skip stop here there)) ≡ has_slid written (window_in xs) (window_in ys) id
    has_slid_is id here there x y xs ys a b =
        slid_is id here there
        ∙ elim (cases_Bool (bytes_eq id written)) [
          | inl own ↦ rw own refl
          | inr other ↦ rw other (ap₂ (λ p q. p && not q) (sym (has_other id here x xs a other)) (sym (has_other id there y ys b other)))
        ]

    abbrev notice : Notice
    notice = notice_of (shown_at skip stop old) (shown_at skip stop new)

    abbrev entered : Option (List ℕ)
    entered = name_of rows new (slid skip stop new old)

    abbrev left : Option (List ℕ)
    left = name_of rows new (slid skip stop old new)

    notice_is : notice ≡ notice_of (position_of written before) (position_of written after)
    notice_is = ap₂ notice_of (sym (position_written old old_row rows_old h)) (sym (position_written new new_row rows_new t))

    -- ---- equal windows: nothing is told

    both_never : (a b : Bool) → (a && (b && not b)) ≡ false
    both_never true true = refl
    both_never true false = refl
    both_never false b = refl

    has_same : (id : List ℕ) (xs ys : List Row) → ids_of xs ≡ ids_of ys → has_id id xs ≡ has_id id ys
    has_same id xs ys e = has_is_some id xs ∙ ap is_some (position_ids id xs ys e) ∙ sym (has_is_some id ys)

    none_named : (name : Option (List ℕ)) → ((id : List ℕ) → is_name id name ≡ false) → name ≡ None
    none_named None never = refl
    none_named (Some id) never = absurd (let own = own_id id in let f = never id in cc)

    never_slid : (xs ys : List Row) → ids_of xs ≡ ids_of ys → (id : List ℕ) → has_slid written xs ys id ≡ false
    never_slid xs ys e id = ap (λ b. not (bytes_eq id written) && (b && not (has_id id ys))) (has_same id xs ys e) ∙ both_never (not (bytes_eq id written)) (has_id id ys)

    none_entered : ids_of before ≡ ids_of after → entered ≡ None
    none_entered e = none_named entered (λ id. has_slid_is id new old new_row old_row rows_new rows_old t h ∙ never_slid after before (sym e) id)

    none_left : ids_of before ≡ ids_of after → left ≡ None
    none_left e = none_named left (λ id. has_slid_is id old new old_row new_row rows_old rows_new h t ∙ never_slid before after e id)

    stays : (p : Option ℕ) → shows_ids (notice_of p p) ≡ false
    stays None = refl
    stays (Some k) = (let s : (k == k) ≡ true = eq-eqb k k refl in rw s refl)

    same_notice : ids_of before ≡ ids_of after → notice ≡ notice_of (position_of written after) (position_of written after)
    same_notice e = notice_is ∙ ap (λ p. notice_of p (position_of written after)) (position_ids written before after e)

    ids_quiet : ids_of before ≡ ids_of after → (shows_ids notice || (is_some entered || is_some left)) ≡ false
    ids_quiet e =
        ap (λ n. shows_ids n || (is_some entered || is_some left)) (same_notice e)
        ∙ ap₂ (λ p q. shows_ids (notice_of (position_of written after) (position_of written after)) || (is_some p || is_some q)) (none_entered e) (none_left e)
        ∙ ap (λ b. b || false) (stays (position_of written after))

    module _ (differ : (k : ℕ) (x : Row) → slice_get before k ≡ Some x → slice_get after k ≡ Some x → is_of written x ≡ true → ⊥) where
      not_there : before ≡ after → position_of written after ≡ None
      not_there e = by (position_of written after) refl
        where
          by : (p : Option ℕ) → position_of written after ≡ p → p ≡ None
          by None is = refl
          by (Some k) is = (let x = row_at written after k is in absurd (differ k x.0 (ap (λ l. slice_get l k) e ∙ x.1) x.1 x.2))

      objects_quiet : before ≡ after → (shows_objects notice || (is_some entered || is_some left)) ≡ false
      objects_quiet e =
          let ids : ids_of before ≡ ids_of after = ap ids_of e in
          ap (λ n. shows_objects n || (is_some entered || is_some left)) (same_notice ids ∙ ap (λ p. notice_of p p) (not_there e))
          ∙ ap₂ (λ p q. is_some p || is_some q) (none_entered ids) (none_left ids)

    -- ---- nothing is told: the windows are equal

    or_false : (a b : Bool) → (a || b) ≡ false → (a ≡ false) × (b ≡ false)
    or_false true b e = absurd (cc)
    or_false false b e = (refl, e)

    is_none : {X : Type 0} (x : Option X) → is_some x ≡ false → x ≡ None
    is_none None e = refl
    is_none (Some x) e = absurd (cc)

    -- a row that is not shown is before the window or behind it
    away : (p : Option ℕ) → shown_at skip stop p ≡ None → (number p < skip) ⊎ (stop ≤ number p)
    away None e = inr (omega arith)
    away (Some k) e =
        elim (cases_Bool (ltb k skip)) [
          | inl f ↦ inl (ltb-true k skip f)
          | inr f ↦ elim (cases_Bool (leb stop k)) [
            | inl g ↦ inr (leb-true stop k g)
            | inr g ↦ absurd (
                let low = ltb-false k skip f in
                let high = leb-false stop k g in
                let a : leb skip k ≡ true = le-leb skip k low in
                let b : ltb k stop ≡ true = lt-ltb k stop high in
                let clash : Some (k - skip) ≡ None = rw (a, b) at e in
                cc
                )
          ]
        ]

    -- the window of a written row before it
    low_window : (p : Option ℕ) (row : Option Row) (xs : List Row) → IsWith written others p row xs → number p < skip → window_in xs ≡ take count (drop (skip - 1) others)
    low_window None row xs is low = absurd (omega (arith, low))
    low_window (Some here) None xs is low = absurd is.put
    low_window (Some here) (Some row) xs is low =
        let one : skip ≡ suc (skip - 1) = omega (arith, low) in
        ap window_in is.put.1
        ∙ ap (λ n. take count (drop n (insert others here row))) one
        ∙ ap (take count) (drop_before row others here (skip - 1) (omega (arith, low)) is.put.0)

    -- and of one behind it
    high_window : (p : Option ℕ) (row : Option Row) (xs : List Row) → IsWith written others p row xs → stop ≤ number p → window_in xs ≡ take count (drop skip others)
    high_window None None xs is high = ap window_in is.put
    high_window None (Some row) xs is high = absurd is.put
    high_window (Some here) None xs is high = absurd is.put
    high_window (Some here) (Some row) xs is high = ap window_in is.put.1 ∙ window_behind row others here skip count high is.put.0

    -- before on one side and behind on the other: a row slid, unless both windows are empty
    no_name : (k : ℕ) → name_at_slid (Some k) ≡ None → length others ≤ k
    no_name k e = elim (cases_Bool (leb (length others) k)) [ inl f ↦ leb-true (length others) k f | inr f ↦ absurd (let low = leb-false (length others) k f in some_name others k low e) ]
      where
        some_name : (xs : List Row) (k : ℕ) → k < length xs → option_map (λ (row : Row). row.0) (slice_get xs k) ≡ None → ⊥
        some_name [] k low e = absurd (omega (arith, low))
        some_name (x ∷ xs) zero low e = absurd (cc)
        some_name (x ∷ xs) (suc k) low e = some_name xs k (omega (arith, low)) e

    slid_low : (here there : Option ℕ) → number here < skip → stop ≤ number there → slid skip stop here there ≡ Some (skip - 1)
    slid_low here there low high =
        let e : is_before skip here ≡ true = before_number here ∙ lt-ltb (number here) skip low in
        let f : is_before skip there ≡ false = before_number there ∙ not_below (number there) skip (omega (arith, high)) in
        rw (e, f) refl

    few : (here there : Option ℕ) → number here < skip → stop ≤ number there → name_of rows new (slid skip stop here there) ≡ None → length others ≤ skip - 1
    few here there low high e = no_name (skip - 1) (sym (name_there (skip - 1) (omega (arith, low))) ∙ ap (name_of rows new) (sym (slid_low here there low high)) ∙ e)

    both_empty : length others ≤ skip - 1 → 0 < skip → take count (drop (skip - 1) others) ≡ take count (drop skip others)
    both_empty short low = ap (take count) (drop_all (skip - 1) others short ∙ sym (drop_all skip others (omega (arith, short, low))))

    same_windows : shown_at skip stop old ≡ None → shown_at skip stop new ≡ None → entered ≡ None → left ≡ None → before ≡ after
    same_windows a b e l =
        elim (away old a) [
          | inl old_low ↦ elim (away new b) [
            | inl new_low ↦ low_window old old_row rows_old h old_low ∙ sym (low_window new new_row rows_new t new_low)
            | inr new_high ↦
                low_window old old_row rows_old h old_low ∙ both_empty (few old new old_low new_high l) (omega (arith, old_low))
                ∙ sym (high_window new new_row rows_new t new_high)
          ]
          | inr old_high ↦ elim (away new b) [
            | inl new_low ↦
                high_window old old_row rows_old h old_high ∙ sym (both_empty (few new old new_low old_high e) (omega (arith, new_low)))
                ∙ sym (low_window new new_row rows_new t new_low)
            | inr new_high ↦ high_window old old_row rows_old h old_high ∙ sym (high_window new new_row rows_new t new_high)
          ]
        ]

    both_none : (p q : Option ℕ) → shows_objects (notice_of p q) ≡ false → (p ≡ None) × (q ≡ None)
    both_none None None e = (refl, refl)
    both_none None (Some k) e = absurd (cc)
    both_none (Some k) None e = absurd (cc)
    both_none (Some k) (Some j) e = elim (cases_Bool (k == j)) [ inl f ↦ absurd (let g : true ≡ false = rw f at e in cc) | inr f ↦ absurd (let g : true ≡ false = rw f at e in cc) ]

    objects_same : (shows_objects notice || (is_some entered || is_some left)) ≡ false → before ≡ after
    objects_same e =
        let (n, s) = or_false (shows_objects notice) (is_some entered || is_some left) e in
        let (i, l) = or_false (is_some entered) (is_some left) s in
        let (a, b) = both_none (shown_at skip stop old) (shown_at skip stop new) n in
        same_windows a b (is_none entered i) (is_none left l)

    -- both not shown, or both at one position
    alike : (p q : Option ℕ) → shows_ids (notice_of p q) ≡ false → ((p ≡ None) × (q ≡ None)) ⊎ ((k : ℕ) × (p ≡ Some k) × (q ≡ Some k))
    alike None None e = inl (refl, refl)
    alike None (Some k) e = absurd (cc)
    alike (Some k) None e = absurd (cc)
    alike (Some k) (Some j) e = elim (cases_Bool (k == j)) [ inl f ↦ (let same : k ≡ j = eqb-true k j f in inr (k, refl, ap Some (sym same))) | inr f ↦ absurd (let g : true ≡ false = rw f at e in cc) ]

    shown_number : (p : Option ℕ) (k : ℕ) → shown_at skip stop p ≡ Some k → p ≡ Some (k + skip)
    shown_number None k e = absurd (cc)
    shown_number (Some here) k e =
        elim (cases_Bool (leb skip here && ltb here stop)) [
          | inl f ↦ (
              let (a, b) = and_parts (leb skip here) (ltb here stop) f in
              let low = leb-true skip here a in
              let g : Some (here - skip) ≡ Some k = rw f at e in
              let s : here - skip ≡ k = cc in
              ap Some (let n : here ≡ k + skip = omega (arith, low, s) in n)
              )
          | inr f ↦ absurd (let g : None ≡ Some k = rw f at e in cc)
        ]

    same_place : (here : ℕ) → old ≡ Some here → new ≡ Some here → ids_of before ≡ ids_of after
    same_place here a b = by old_row new_row (subst (λ p. IsWith written others p old_row rows_old) a h) (subst (λ p. IsWith written others p new_row rows_new) b t)
      where
        by : (x y : Option Row) → IsWith written others (Some here) x rows_old → IsWith written others (Some here) y rows_new → ids_of before ≡ ids_of after
        by None y p q = absurd p.put
        by (Some x) None p q = absurd q.put
        by (Some x) (Some y) p q = ap (λ l. ids_of (window_in l)) p.put.1 ∙ ids_window x y others here skip count (p.own ∙ sym q.own) ∙ ap (λ l. ids_of (window_in l)) (sym q.put.1)

    ids_same : (shows_ids notice || (is_some entered || is_some left)) ≡ false → ids_of before ≡ ids_of after
    ids_same e =
        let (n, s) = or_false (shows_ids notice) (is_some entered || is_some left) e in
        let (i, l) = or_false (is_some entered) (is_some left) s in
        elim (alike (shown_at skip stop old) (shown_at skip stop new) n) [
          | inl p ↦ ap ids_of (same_windows p.0 p.1 (is_none entered i) (is_none left l))
          | inr p ↦ same_place (p.0 + skip) (shown_number old p.0 p.1) (shown_number new p.0 p.2)
        ]

    decided_by : {P : Type 0} (b : Bool) → (b ≡ false → P) → (P → b ≡ false) → Decides b (P → ⊥)
    decided_by true same quiet = (λ e p. (let f : true ≡ false = quiet p in cc), λ n. refl)
    decided_by false same quiet = ((λ e. absurd (cc)), λ n. absurd (n (same refl)))

    -- all of it
    pub step_is_between : ((k : ℕ) (x : Row) → slice_get before k ≡ Some x → slice_get after k ≡ Some x → is_of written x ≡ true → ⊥) → IsStepBetween written before after (step_of skip stop rows old new)
    step_is_between differ = record {
      notice = notice_is;
      slid_in = λ id. has_slid_is id new old new_row old_row rows_new rows_old t h;
      slid_out = λ id. has_slid_is id old new old_row new_row rows_old rows_new h t;
      objects_changed = decided_by (shows_objects notice || (is_some entered || is_some left)) objects_same (objects_quiet differ);
      ids_changed = decided_by (shows_ids notice || (is_some entered || is_some left)) ids_same ids_quiet;
    }
