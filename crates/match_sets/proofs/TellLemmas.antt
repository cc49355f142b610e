-- The rows of a window by their ids.
use Rattle.std.proofs.Common.{◌≡◌, ℕ, zero, suc, ◌+◌, ◌-◌, ◌<◌, ◌≤◌, leb, ltb, eqb, List, [], ◌∷◌, length, take, drop, Bool, true, false, not, ◌&&◌, inl, inr, Option, None, Some, option_map, is_some, slice_get, refl, sym, ap, ap₂, ◌∙◌, subst, arith, leb-true, leb-false, ltb-true, ltb-false, eqb-true, le-leb, lt-ltb, eq-eqb, if◌then◌else◌}
use Rattle.std.specs.List.{filter, insert, position, position_from}
use Rattle.std.proofs.lemmas.Iterator.Adapters.{position_from-zero}
use Rattle.std.specs.Str.{bytes_eq}
use Rattle.std.specs.Cmp.{decided}
use Rattle.std.proofs.lemmas.Bool.{cases_Bool, and_parts}
use Rattle.std.proofs.lemmas.List.{take-map, drop-map}
use Rattle.std.proofs.lemmas.Slice.Eq.{bytes_eq-Decides}
use Rattle.query_core.specs.Changes.{is_of}
use Rattle.query_core.specs.Window.{Row}
use Rattle.result_kinds.specs.Results.{ids_of}
use Rattle.match_sets.specs.Rows.{AreApart}
use Rattle.match_sets.specs.Windows.{position_of, has_id, is_name}

-- ---- tests that agree

pub same_bool : (a b : Bool) → (a ≡ true → b ≡ true) → (b ≡ true → a ≡ true) → a ≡ b
same_bool true b f g = sym (f refl)
same_bool false true f g = g refl
same_bool false false f g = refl

-- ---- numbers

-- where one of the others is among the rows with the written one at `here`
abbrev pub moved : ℕ → ℕ → ℕ
moved here k = if ltb k here then k else suc k

-- whether a position is in the window
abbrev pub is_shown : ℕ → ℕ → ℕ → Bool
is_shown start end k = leb start k && ltb k end

module _ (start end : ℕ) (some : start < end) where
  -- whether another row at k is shown
  abbrev pub there_is : ℕ → ℕ → Bool
  there_is here k = is_shown start end (moved here k)

  shown_low : (here k : ℕ) → k < here → there_is here k ≡ is_shown start end k
  shown_low here k low = rw (lt-ltb k here low) refl

  shown_high : (here k : ℕ) → here ≤ k → there_is here k ≡ is_shown start end (suc k)
  shown_high here k high = rw (ltb-not k here high) refl
    where
      ltb-not : (a b : ℕ) → b ≤ a → ltb a b ≡ false
      ltb-not a b le = elim (cases_Bool (ltb a b)) [ inl e ↦ absurd (let l = ltb-true a b e in omega arith) | inr e ↦ e ]

  -- the bounds of a shown position
  bounds : (k : ℕ) → is_shown start end k ≡ true → (start ≤ k) × (k < end)
  bounds k e = (let (a, b) = and_parts (leb start k) (ltb k end) e in (leb-true start k a, ltb-true k end b))

  within : (k : ℕ) → start ≤ k → k < end → is_shown start end k ≡ true
  within k a b = rw (le-leb start k a, lt-ltb k end b) refl

  outside_low : (k : ℕ) → k < start → is_shown start end k ≡ false
  outside_low k low = elim (cases_Bool (is_shown start end k)) [ inl e ↦ absurd (let b = bounds k e in omega (arith, b.0)) | inr e ↦ e ]

  outside_high : (k : ℕ) → end ≤ k → is_shown start end k ≡ false
  outside_high k high = elim (cases_Bool (is_shown start end k)) [ inl e ↦ absurd (let b = bounds k e in omega (arith, b.1)) | inr e ↦ e ]

  -- the bounds of another row by where the written one is
  shown_before : (here k : ℕ) → here < start → there_is here k ≡ true → (start ≤ suc k) × (suc k < end)
  shown_before here k low e =
      elim (cases_Bool (ltb k here)) [
        | inl l ↦ absurd (let k_low = ltb-true k here l in let b = bounds k (sym (shown_low here k k_low) ∙ e) in omega (arith, b.0))
        | inr l ↦ bounds (suc k) (sym (shown_high here k (ltb-false k here l)) ∙ e)
      ]

  shown_after : (here k : ℕ) → end ≤ here → there_is here k ≡ true → (start ≤ k) × (k < end)
  shown_after here k high e =
      elim (cases_Bool (ltb k here)) [
        | inl l ↦ bounds k (sym (shown_low here k (ltb-true k here l)) ∙ e)
        | inr l ↦ absurd (let k_high = ltb-false k here l in let b = bounds (suc k) (sym (shown_high here k k_high) ∙ e) in omega (arith, b.1))
      ]

  -- the one position at which a row is shown where the written one is here, and not where it is there
  pub only_before : (here there k : ℕ) → here < start → start ≤ there → (there_is here k && not (there_is there k)) ≡ eqb k (start - 1)
  only_before here there k low high = same_bool (there_is here k && not (there_is there k)) (eqb k (start - 1)) forth back
    where
      forth : (there_is here k && not (there_is there k)) ≡ true → eqb k (start - 1) ≡ true
      forth e =
          let (in_here, out) = and_parts (there_is here k) (not (there_is there k)) e in
          let b = shown_before here k low in_here in
          elim (cases_Bool (ltb k start)) [
            | inl l ↦ (let k_low = ltb-true k start l in eq-eqb k (start - 1) (omega (arith, k_low, b.0)))
            | inr l ↦ absurd (
                let k_high = ltb-false k start l in
                let shown_there : there_is there k ≡ true =
                elim (cases_Bool (ltb k there)) [
                  | inl m ↦ shown_low there k (ltb-true k there m) ∙ within k k_high (omega (arith, b.1))
                  | inr m ↦ shown_high there k (ltb-false k there m) ∙ within (suc k) (omega (arith, k_high)) b.1
                ] in
                cc
                )
          ]

      back : eqb k (start - 1) ≡ true → (there_is here k && not (there_is there k)) ≡ true
      back e =
          let at : k ≡ start - 1 = eqb-true k (start - 1) e in
          let in_here : there_is here k ≡ true = shown_high here k (omega (arith, at, low)) ∙ within (suc k) (omega (arith, at)) (omega (arith, at, low, some)) in
          let out : there_is there k ≡ false = shown_low there k (omega (arith, at, low, high)) ∙ outside_low k (omega (arith, at, low)) in
          rw (in_here, out) refl

  pub only_behind : (here there k : ℕ) → end ≤ here → there < end → (there_is here k && not (there_is there k)) ≡ eqb k (end - 1)
  only_behind here there k high low = same_bool (there_is here k && not (there_is there k)) (eqb k (end - 1)) forth back
    where
      forth : (there_is here k && not (there_is there k)) ≡ true → eqb k (end - 1) ≡ true
      forth e =
          let (in_here, out) = and_parts (there_is here k) (not (there_is there k)) e in
          let b = shown_after here k high in_here in
          elim (cases_Bool (ltb (suc k) end)) [
            | inl l ↦ absurd (
                let k_low = ltb-true (suc k) end l in
                let shown_there : there_is there k ≡ true =
                elim (cases_Bool (ltb k there)) [
                  | inl m ↦ shown_low there k (ltb-true k there m) ∙ within k b.0 b.1
                  | inr m ↦ shown_high there k (ltb-false k there m) ∙ within (suc k) (omega (arith, b.0)) k_low
                ] in
                cc
                )
            | inr l ↦ (let k_high = ltb-false (suc k) end l in eq-eqb k (end - 1) (omega (arith, k_high, b.1)))
          ]

      back : eqb k (end - 1) ≡ true → (there_is here k && not (there_is there k)) ≡ true
      back e =
          let at : k ≡ end - 1 = eqb-true k (end - 1) e in
          let in_here : there_is here k ≡ true = shown_low here k (omega (arith, at, high, some)) ∙ within k (omega (arith, at, some)) (omega (arith, at, some)) in
          let out : there_is there k ≡ false = shown_high there k (omega (arith, at, low)) ∙ outside_high (suc k) (omega (arith, at, some)) in
          rw (in_here, out) refl

  -- else there is none
  pub only_none : (here there k : ℕ) → (here < start → there < start) → (end ≤ here → end ≤ there) → (there_is here k && not (there_is there k)) ≡ false
  only_none here there k low high = elim (cases_Bool (there_is here k)) [ inl in_here ↦ rw (in_here, shown_there in_here) refl | inr out ↦ rw out refl ]
    where
      -- by where the written row is
      shown_there : there_is here k ≡ true → there_is there k ≡ true
      shown_there in_here =
          elim (cases_Bool (ltb here start)) [
            | inl l ↦ (
                let here_low = ltb-true here start l in
                let there_low = low here_low in
                let b = shown_before here k here_low in_here in
                shown_high there k (omega (arith, b.0, there_low)) ∙ within (suc k) b.0 b.1
                )
            | inr l ↦ elim (cases_Bool (leb end here)) [
              | inl m ↦ (
                  let here_high = leb-true end here m in
                  let there_high = high here_high in
                  let b = shown_after here k here_high in_here in
                  shown_low there k (omega (arith, b.1, there_high)) ∙ within k b.0 b.1
                  )
              | inr m ↦ (
                  let here_in = ltb-false here start l in
                  let here_low = leb-false end here m in
                  let b : (start ≤ k) × (suc k < end) =
                  elim (cases_Bool (ltb k here)) [
                    | inl n ↦ (let k_low = ltb-true k here n in let c = bounds k (sym (shown_low here k k_low) ∙ in_here) in (c.0, omega (arith, k_low, here_low)))
                    | inr n ↦ (let k_high = ltb-false k here n in let c = bounds (suc k) (sym (shown_high here k k_high) ∙ in_here) in (omega (arith, here_in, k_high), c.1))
                  ] in
                  elim (cases_Bool (ltb k there)) [
                    | inl n ↦ shown_low there k (ltb-true k there n) ∙ within k b.0 (omega (arith, b.1))
                    | inr n ↦ shown_high there k (ltb-false k there n) ∙ within (suc k) (omega (arith, b.0)) b.1
                  ]
                  )
            ]
          ]

-- ---- positions of ids

-- whether the id is at this position
abbrev pub is_at : ℕ → Option ℕ → Bool
is_at n None = false
is_at n (Some k) = eqb k n

pub has_is_some : (id : List ℕ) (rows : List Row) → has_id id rows ≡ is_some (position_of id rows)
has_is_some id [] = refl
has_is_some id (row ∷ rows) = elim (cases_Bool (is_of id row)) [ inl e ↦ rw e refl | inr e ↦ rw e (has_is_some id rows ∙ sym (some_suc (position_of id rows))) ]
  where
    some_suc : (p : Option ℕ) → is_some (option_map suc p) ≡ is_some p
    some_suc None = refl
    some_suc (Some k) = refl

-- another row's position once the written row is put in
pub position_insert : (id : List ℕ) (written : Row) (others : List Row) (here : ℕ) → is_of id written ≡ false → here ≤ length others → position_of id (insert others here written) ≡ option_map (moved here) (position_of id others)
position_insert id written others zero other low = rw other (ap (λ f. option_map f (position_of id others)) (λ i k. suc_moved k i))
  where
    suc_moved : (k : ℕ) → suc k ≡ moved zero k
    suc_moved k = elim (cases_Bool (ltb k zero)) [ inl e ↦ absurd (let l = ltb-true k zero e in omega arith) | inr e ↦ rw e refl ]
position_insert id written [] (suc here) other low = absurd (omega arith)
position_insert id written (row ∷ others) (suc here) other low =
    elim (cases_Bool (is_of id row)) [
      | inl e ↦ rw e (ap Some (sym (ap (λ b. if b then zero else suc zero) (lt-ltb zero (suc here) (omega arith)))))
      | inr e ↦ rw e (ap (option_map suc) (position_insert id written others here other (omega arith)) ∙ both_moved (position_of id others))
    ]
  where
    suc_moved : (k : ℕ) → suc (moved here k) ≡ moved (suc here) (suc k)
    suc_moved k =
        elim (cases_Bool (ltb k here)) [
          | inl e ↦ (let l = ltb-true k here e in let f = lt-ltb (suc k) (suc here) (omega arith) in rw (e, f) refl)
          | inr e ↦ (let l = ltb-false k here e in elim (cases_Bool (ltb (suc k) (suc here))) [ inl f ↦ absurd (let m = ltb-true (suc k) (suc here) f in omega arith) | inr f ↦ rw (e, f) refl ])
        ]

    both_moved : (p : Option ℕ) → option_map suc (option_map (moved here) p) ≡ option_map (moved (suc here)) (option_map suc p)
    both_moved None = refl
    both_moved (Some k) = ap Some (suc_moved k)

-- the written row's own position
pub position_own : (written : Row) (others : List Row) (here : ℕ) → filter (is_of written.0) others ≡ [] → is_of written.0 written ≡ true → here ≤ length others → position_of written.0 (insert others here written) ≡ Some here
position_own written others zero none own low = rw own refl
position_own written [] (suc here) none own low = absurd (omega arith)
position_own written (row ∷ others) (suc here) none own low =
    elim (cases_Bool (is_of written.0 row)) [
      | inl e ↦ absurd (let g : row ∷ filter (is_of written.0) others ≡ [] = rw e at none in cc)
      | inr e ↦ (let g : filter (is_of written.0) others ≡ [] = rw e at none in rw e (ap (option_map suc) (position_own written others here g own (omega arith))))
    ]

pub position_none : (id : List ℕ) (rows : List Row) → filter (is_of id) rows ≡ [] → position_of id rows ≡ None
position_none id [] none = refl
position_none id (row ∷ rows) none =
    elim (cases_Bool (is_of id row)) [
      | inl e ↦ absurd (let g : row ∷ filter (is_of id) rows ≡ [] = rw e at none in cc)
      | inr e ↦ (let g : filter (is_of id) rows ≡ [] = rw e at none in rw e (ap (option_map suc) (position_none id rows g)))
    ]

-- ---- positions in a part

abbrev pub cut_at : ℕ → Option ℕ → Option ℕ
cut_at n None = None
cut_at n (Some k) = if ltb k n then Some k else None

abbrev from_at : ℕ → Option ℕ → Option ℕ
from_at n None = None
from_at n (Some k) = if leb n k then Some (k - n) else None

pub not_below : (a b : ℕ) → b ≤ a → ltb a b ≡ false
not_below a b le = elim (cases_Bool (ltb a b)) [ inl e ↦ absurd (let l = ltb-true a b e in omega arith) | inr e ↦ e ]

pub not_upto : (a b : ℕ) → b < a → leb a b ≡ false
not_upto a b low = elim (cases_Bool (leb a b)) [ inl e ↦ absurd (let l = leb-true a b e in omega arith) | inr e ↦ e ]

pub position_take : (id : List ℕ) (n : ℕ) (rows : List Row) → position_of id (take n rows) ≡ cut_at n (position_of id rows)
position_take id zero rows = sym (nothing (position_of id rows))
  where
    nothing : (p : Option ℕ) → cut_at zero p ≡ None
    nothing None = refl
    nothing (Some k) = rw (not_below k zero (omega arith)) refl
position_take id (suc n) [] = refl
position_take id (suc n) (row ∷ rows) =
    elim (cases_Bool (is_of id row)) [
      | inl e ↦ rw (e, lt-ltb zero (suc n) (omega arith)) refl
      | inr e ↦ rw e (ap (option_map suc) (position_take id n rows) ∙ later (position_of id rows))
    ]
  where
    later : (p : Option ℕ) → option_map suc (cut_at n p) ≡ cut_at (suc n) (option_map suc p)
    later None = refl
    later (Some k) =
        elim (cases_Bool (ltb k n)) [
          | inl e ↦ (let l = ltb-true k n e in rw (e, lt-ltb (suc k) (suc n) (omega arith)) refl)
          | inr e ↦ (let l = ltb-false k n e in rw (e, not_below (suc k) (suc n) (omega arith)) refl)
        ]

pub apart_tail : (row : Row) (rows : List Row) → AreApart (row ∷ rows) → AreApart rows
apart_tail row rows apart id =
    elim (cases_Bool (is_of id row)) [
      | inl e ↦ (let all = apart id in let more : suc (length (filter (is_of id) rows)) ≤ 1 = rw e at all in omega arith)
      | inr e ↦ (let all = apart id in rw e at all)
    ]

pub apart_rest : (id : List ℕ) (row : Row) (rows : List Row) → AreApart (row ∷ rows) → is_of id row ≡ true → filter (is_of id) rows ≡ []
apart_rest id row rows apart e = empty (filter (is_of id) rows) (let all = apart id in rw e at all)
  where
    empty : (xs : List Row) → suc (length xs) ≤ 1 → xs ≡ []
    empty [] low = refl
    empty (x ∷ xs) low = absurd (omega arith)

none_dropped : (id : List ℕ) (n : ℕ) (rows : List Row) → filter (is_of id) rows ≡ [] → filter (is_of id) (drop n rows) ≡ []
none_dropped id zero rows none = none
none_dropped id (suc n) [] none = refl
none_dropped id (suc n) (row ∷ rows) none =
    elim (cases_Bool (is_of id row)) [
      | inl e ↦ absurd (let g : row ∷ filter (is_of id) rows ≡ [] = rw e at none in cc)
      | inr e ↦ none_dropped id n rows (rw e at none)
    ]

position_drop : (id : List ℕ) (n : ℕ) (rows : List Row) → AreApart rows → position_of id (drop n rows) ≡ from_at n (position_of id rows)
position_drop id zero rows apart = sym (all (position_of id rows))
  where
    all : (p : Option ℕ) → from_at zero p ≡ p
    all None = refl
    all (Some k) = (let e : k - zero ≡ k = omega arith in rw (le-leb zero k (omega arith)) (ap Some e))
position_drop id (suc n) [] apart = refl
position_drop id (suc n) (row ∷ rows) apart =
    elim (cases_Bool (is_of id row)) [
      | inl e ↦ rw (e, not_upto (suc n) zero (omega arith)) (position_none id (drop n rows) (none_dropped id n rows (apart_rest id row rows apart e)))
      | inr e ↦ rw e (position_drop id n rows (apart_tail row rows apart) ∙ later (position_of id rows))
    ]
  where
    later : (p : Option ℕ) → from_at n p ≡ from_at (suc n) (option_map suc p)
    later None = refl
    later (Some k) =
        elim (cases_Bool (leb n k)) [
          | inl e ↦ (let l = leb-true n k e in let d : k - n ≡ suc k - suc n = omega arith in rw (e, le-leb (suc n) (suc k) (omega arith)) (ap Some d))
          | inr e ↦ (let l = leb-false n k e in rw (e, not_upto (suc n) (suc k) (omega arith)) refl)
        ]

-- where a window shows the position
abbrev pub in_part : ℕ → ℕ → Option ℕ → Option ℕ
in_part skip count p = cut_at count (from_at skip p)

pub position_window : (id : List ℕ) (skip count : ℕ) (rows : List Row) → AreApart rows → position_of id (take count (drop skip rows)) ≡ in_part skip count (position_of id rows)
position_window id skip count rows apart = position_take id count (drop skip rows) ∙ ap (cut_at count) (position_drop id skip rows apart)

-- a window has the id where its position is shown
pub shown_some : (skip count k : ℕ) → is_some (in_part skip count (Some k)) ≡ is_shown skip (skip + count) k
shown_some skip count k =
    elim (cases_Bool (leb skip k)) [
      | inl e ↦ (
          let l = leb-true skip k e in
          elim (cases_Bool (ltb (k - skip) count)) [
            | inl f ↦ (let m = ltb-true (k - skip) count f in rw (e, f, lt-ltb k (skip + count) (omega arith)) refl)
            | inr f ↦ (let m = ltb-false (k - skip) count f in rw (e, f, not_below k (skip + count) (omega arith)) refl)
          ]
          )
      | inr e ↦ rw e refl
    ]

-- the row at a position is of the id where the id is there
pub name_at : (id : List ℕ) (rows : List Row) (n : ℕ) → AreApart rows → is_name id (option_map (λ (row : Row). row.0) (slice_get rows n)) ≡ is_at n (position_of id rows)
name_at id [] n apart = refl
name_at id (row ∷ rows) zero apart =
    elim (cases_Bool (is_of id row)) [
      | inl e ↦ rw e (turned row ∙ e ∙ sym (eq-eqb zero zero refl))
      | inr e ↦ rw e (turned row ∙ e ∙ sym (later (position_of id rows)))
    ]
  where
    turned : (row : Row) → bytes_eq id row.0 ≡ is_of id row
    turned row = (decided bytes_eq bytes_eq-Decides).symm id row.0

    later : (p : Option ℕ) → is_at zero (option_map suc p) ≡ false
    later None = refl
    later (Some k) = elim (cases_Bool (eqb (suc k) zero)) [ inl f ↦ absurd (let s = eqb-true (suc k) zero f in omega arith) | inr f ↦ f ]
name_at id (row ∷ rows) (suc n) apart =
    elim (cases_Bool (is_of id row)) [
      | inl e ↦ rw e (name_at id rows n (apart_tail row rows apart) ∙ ap (is_at n) (position_none id rows (apart_rest id row rows apart e)) ∙ sym never)
      | inr e ↦ rw e (name_at id rows n (apart_tail row rows apart) ∙ later (position_of id rows))
    ]
  where
    never : eqb zero (suc n) ≡ false
    never = elim (cases_Bool (eqb zero (suc n))) [ inl f ↦ absurd (let s = eqb-true zero (suc n) f in omega arith) | inr f ↦ f ]

    later : (p : Option ℕ) → is_at n p ≡ is_at (suc n) (option_map suc p)
    later None = refl
    later (Some k) =
        elim (cases_Bool (eqb k n)) [
          | inl e ↦ (let s = eqb-true k n e in rw e (sym (eq-eqb (suc k) (suc n) (omega (arith, s)))))
          | inr e ↦ elim (cases_Bool (eqb (suc k) (suc n))) [
            | inl f ↦ absurd (let s = eqb-true (suc k) (suc n) f in let g : eqb k n ≡ true = eq-eqb k n (omega (arith, s)) in cc)
            | inr f ↦ rw (e, f) refl
          ]
        ]

-- ---- the same ids at the same positions

-- positions depend on the ids alone
pub position_ids : (id : List ℕ) (xs ys : List Row) → ids_of xs ≡ ids_of ys → position_of id xs ≡ position_of id ys
position_ids id [] [] e = refl
position_ids id [] (y ∷ ys) e = absurd (cc)
position_ids id (x ∷ xs) [] e = absurd (cc)
position_ids id (x ∷ xs) (y ∷ ys) e =
    let heads : x.0 ≡ y.0 = cc in
    let tails : ids_of xs ≡ ids_of ys = cc in
    ap₂ (λ (i : List ℕ) (p : Option ℕ). if bytes_eq i id then Some 0 else option_map suc p) heads (position_ids id xs ys tails)

pub position_within : (id : List ℕ) (rows : List Row) (k : ℕ) → position_of id rows ≡ Some k → k < length rows
position_within id [] k e = absurd (cc)
position_within id (row ∷ rows) k e =
    elim (cases_Bool (is_of id row)) [
      | inl f ↦ (let g : Some 0 ≡ Some k = rw f at e in let s : 0 ≡ k = cc in omega (arith, s))
      | inr f ↦ later (position_of id rows) refl (λ j is. position_within id rows j is) (rw f at e)
    ]
  where
    later : (p : Option ℕ) → position_of id rows ≡ p → ((j : ℕ) → position_of id rows ≡ Some j → j < length rows) → option_map suc p ≡ Some k → k < suc (length rows)
    later None is deep g = absurd (cc)
    later (Some j) is deep g = (let low = deep j is in let s : suc j ≡ k = cc in omega (arith, low, s))

-- ---- rows at positions

-- the row of the id is at its position
pub row_at : (id : List ℕ) (rows : List Row) (k : ℕ) → position_of id rows ≡ Some k → (x : Row) × (slice_get rows k ≡ Some x) × (is_of id x ≡ true)
row_at id [] k e = absurd (cc)
row_at id (row ∷ rows) k e =
    elim (cases_Bool (is_of id row)) [
      | inl f ↦ (let g : Some 0 ≡ Some k = rw f at e in let s : 0 ≡ k = cc in subst (λ (n : ℕ). (x : Row) × (slice_get (row ∷ rows) n ≡ Some x) × (is_of id x ≡ true)) s (row, refl, f))
      | inr f ↦ later (position_of id rows) refl (λ j is. row_at id rows j is) (rw f at e)
    ]
  where
    later : (p : Option ℕ) → position_of id rows ≡ p → ((j : ℕ) → position_of id rows ≡ Some j → (x : Row) × (slice_get rows j ≡ Some x) × (is_of id x ≡ true)) → option_map suc p ≡ Some k → (x : Row) × (slice_get (row ∷ rows) k ≡ Some x) × (is_of id x ≡ true)
    later None is deep g = absurd (cc)
    later (Some j) is deep g =
        let found = deep j is in
        let s : suc j ≡ k = cc in
        subst (λ (n : ℕ). (x : Row) × (slice_get (row ∷ rows) n ≡ Some x) × (is_of id x ≡ true)) s (found.0, found.1, found.2)

-- one of the others is at its position among the rows with the written one
pub other_at : (written : Row) (others : List Row) (here k : ℕ) → here ≤ length others → slice_get (insert others here written) (moved here k) ≡ slice_get others k
other_at written others zero k low = (let e : ltb k zero ≡ false = not_below k zero (omega arith) in rw e refl)
other_at written [] (suc here) k low = absurd (omega arith)
other_at written (row ∷ others) (suc here) zero low = (let e : ltb zero (suc here) ≡ true = lt-ltb zero (suc here) (omega arith) in rw e refl)
other_at written (row ∷ others) (suc here) (suc k) low =
    elim (cases_Bool (ltb k here)) [
      | inl e ↦ (
          let f : ltb (suc k) (suc here) ≡ true = lt-ltb (suc k) (suc here) (let l = ltb-true k here e in omega (arith, l)) in
          let next : slice_get (insert others here written) k ≡ slice_get others k = (let deep = other_at written others here k (omega arith) in rw e at deep) in
          rw f next
          )
      | inr e ↦ (
          let f : ltb (suc k) (suc here) ≡ false = not_below (suc k) (suc here) (let l = ltb-false k here e in omega (arith, l)) in
          let next : slice_get (insert others here written) (suc k) ≡ slice_get others k = (let deep = other_at written others here k (omega arith) in rw e at deep) in
          rw f next
          )
    ]

-- ---- the window of the rows with the written one before it or behind it

pub drop_before : (written : Row) (others : List Row) (here n : ℕ) → here ≤ n → here ≤ length others → drop (suc n) (insert others here written) ≡ drop n others
drop_before written others zero n low within = refl
drop_before written [] (suc here) n low within = absurd (omega arith)
drop_before written (row ∷ others) (suc here) zero low within = absurd (omega arith)
drop_before written (row ∷ others) (suc here) (suc n) low within = drop_before written others here n (omega arith) (omega arith)

take_behind : (written : Row) (others : List Row) (here n : ℕ) → n ≤ here → here ≤ length others → take n (insert others here written) ≡ take n others
take_behind written others here zero low within = refl
take_behind written others zero (suc n) low within = absurd (omega arith)
take_behind written [] (suc here) (suc n) low within = absurd (omega arith)
take_behind written (row ∷ others) (suc here) (suc n) low within = ap (λ l. row ∷ l) (take_behind written others here n (omega arith) (omega arith))

pub window_behind : (written : Row) (others : List Row) (here skip count : ℕ) → skip + count ≤ here → here ≤ length others → take count (drop skip (insert others here written)) ≡ take count (drop skip others)
window_behind written others here zero count low within = take_behind written others here count (omega arith) within
window_behind written others zero (suc skip) count low within = absurd (omega arith)
window_behind written [] (suc here) (suc skip) count low within = absurd (omega arith)
window_behind written (row ∷ others) (suc here) (suc skip) count low within = window_behind written others here skip count (omega arith) (omega arith)

-- the ids of the window depend on the id of the written row alone
ids_insert : (a b : Row) (others : List Row) (here : ℕ) → a.0 ≡ b.0 → ids_of (insert others here a) ≡ ids_of (insert others here b)
ids_insert a b others zero e = ap (λ (i : List ℕ). i ∷ ids_of others) e
ids_insert a b [] (suc here) e = ap (λ (i : List ℕ). i ∷ []) e
ids_insert a b (row ∷ others) (suc here) e = ap (λ l. row.0 ∷ l) (ids_insert a b others here e)

pub ids_window : (a b : Row) (others : List Row) (here skip count : ℕ) → a.0 ≡ b.0 → ids_of (take count (drop skip (insert others here a))) ≡ ids_of (take count (drop skip (insert others here b)))
ids_window a b others here skip count e = parts (insert others here a) ∙ ap (λ l. take count (drop skip l)) (ids_insert a b others here e) ∙ sym (parts (insert others here b))
  where
    parts : (rows : List Row) → ids_of (take count (drop skip rows)) ≡ take count (drop skip (ids_of rows))
    parts rows = sym (take-map (λ (row : Row). row.0) count (drop skip rows)) ∙ ap (take count) (sym (drop-map (λ (row : Row). row.0) skip rows))

-- ---- the position that a search from the left finds

from_is : (id : List ℕ) (n : ℕ) (rows : List Row) → position_from (is_of id) n rows ≡ option_map (λ k. n + k) (position_of id rows)
from_is id n [] = refl
from_is id n (row ∷ rows) =
    elim (cases_Bool (is_of id row)) [
      | inl e ↦ rw e (ap Some (let z : n ≡ n + 0 = omega arith in z))
      | inr e ↦ rw e (from_is id (n + 1) rows ∙ later (position_of id rows))
    ]
  where
    later : (p : Option ℕ) → option_map (λ k. n + 1 + k) p ≡ option_map (λ k. n + k) (option_map suc p)
    later None = refl
    later (Some k) = ap Some (let z : n + 1 + k ≡ n + suc k = omega arith in z)

pub position_std : (id : List ℕ) (rows : List Row) → position (is_of id) rows ≡ position_of id rows
position_std id rows = position_from-zero (is_of id) rows ∙ from_is id 0 rows ∙ by (position_of id rows)
  where
    by : (p : Option ℕ) → option_map (λ k. 0 + k) p ≡ p
    by None = refl
    by (Some k) = ap Some (let z : 0 + k ≡ k = omega arith in z)
