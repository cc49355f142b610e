-- What `step` and `renew` tell is so, over a journal.
use Rattle.std.proofs.Common.{◌≡◌, ℕ, zero, suc, ◌+◌, ◌-◌, ◌<◌, ◌≤◌, leb, ltb, List, [], ◌∷◌, ◌++◌, length, take, drop, Bool, true, false, not, ◌&&◌, ◌||◌, ◌⊎◌, inl, inr, Option, None, Some, option_map, IfSome, slice_get, refl, sym, ap, ap₂, ◌∙◌, subst, subst₂, arith, ltb-false, le-leb, lt-ltb, if◌then◌else◌, append-nil, length-take, take-take}
use Rattle.std.specs.List.{filter, insert}
use Rattle.std.specs.Ordering.{is_lt}
use Rattle.std.specs.Str.{bytes_eq}
use Rattle.std.proofs.lemmas.Bool.{cases_Bool}
use Rattle.std.proofs.lemmas.List.{take_all, take-append-le}
use Rattle.std.proofs.lemmas.List.Elements.{filter-append}
use Rattle.std.proofs.lemmas.Option.{slice_get_within}
use Rattle.std.proofs.lemmas.Slice.Eq.{bytes_eq-Decides}
use Rattle.q_doc.specs.Tree.{Tree}
use Rattle.commit_book.specs.declared.change.Change.{Change}
use Rattle.commit_book.specs.declared.change.CommitRow.{CommitRow}
use Rattle.commit_book.specs.Documents.{docs}
use Rattle.query_core.specs.declared.query.Query.{Query}
use Rattle.query_core.specs.declared.query.Verdict.{Verdict}
use Rattle.query_core.specs.Changes.{is_of, without, placed_if}
use Rattle.query_core.specs.Window.{Row, Order, rows_cmp, placed, matches}
use Rattle.query_core.proofs.Rising.{filters_swap}
use Rattle.match_sets.specs.declared.steps.MatchStep.{MatchStep}
use Rattle.match_sets.specs.Contents.{Contents, StandsFor, IsNext, IsToldBy, window_of, most_rows, rows_after}
use Rattle.match_sets.specs.Follow.{Follows}
use Rattle.match_sets.specs.Rows.{AreApart, IsPutAt, new_row, others, kept_part, reaches, last_of}
use Rattle.match_sets.specs.Told.{shift, is_before, is_behind, shown_at, slid, name_of, step_with, step_of, step_in, place_where}
use Rattle.match_sets.specs.Windows.{position_of, notice_of, IsStepBetween}
use Rattle.match_sets.proofs.Journals.{Following, parts, up, step_is, told, all_after, none_before, commit_is, new_own, empty_front}
use Rattle.match_sets.proofs.KeptLemmas.{kept_step}
use Rattle.match_sets.proofs.Positions.{filter_none, none_there}
use Rattle.match_sets.proofs.StartLemmas.{get_take, get_drop}
use Rattle.match_sets.proofs.StepLemmas.{IsWith, step_is_between}
use Rattle.match_sets.proofs.TellLemmas.{other_at, cut_at, position_take, apart_tail, apart_rest, not_below}

-- ---- lists whose ids are apart

apart_front : (xs ys : List Row) → AreApart (xs ++ ys) → AreApart xs
apart_front xs ys apart id =
    let all = apart id in
    let n = ap length (filter-append (is_of id) xs ys) in
    let m = append_longer (filter (is_of id) xs) (filter (is_of id) ys) in
    omega (arith, all, n, m)
  where
    append_longer : (a b : List Row) → length a ≤ length (a ++ b)
    append_longer [] b = omega arith
    append_longer (x ∷ a) b = (let deep = append_longer a b in omega (arith, deep))

fewer : (t : Row → Bool) (xs : List Row) → length (filter t xs) ≤ length xs
fewer t [] = omega arith
fewer t (x ∷ xs) = elim (cases_Bool (t x)) [ inl e ↦ (let deep = fewer t xs in rw e (omega (arith, deep))) | inr e ↦ (let deep = fewer t xs in rw e (omega (arith, deep))) ]

apart_without : (other : List ℕ) (xs : List Row) → AreApart xs → AreApart (without other xs)
apart_without other xs apart id =
    let all = apart id in
    let swapped = ap length (filters_swap (is_of id) (λ row. not (is_of other row)) xs) in
    let few = fewer (λ row. not (is_of other row)) (filter (is_of id) xs) in
    omega (arith, all, swapped, few)

apart_others : (before : Bool) (id : List ℕ) (xs : List Row) → AreApart xs → AreApart (others before id xs)
apart_others true id xs apart = apart_without id xs apart
apart_others false id xs apart = apart

none_without : (id : List ℕ) (xs : List Row) → filter (is_of id) (without id xs) ≡ []
none_without id [] = refl
none_without id (x ∷ xs) = elim (cases_Bool (is_of id x)) [ inl e ↦ rw e (none_without id xs) | inr e ↦ rw (e, e) (none_without id xs) ]

none_others : (before : Bool) (id : List ℕ) (xs : List Row) → (before ≡ false → filter (is_of id) xs ≡ []) → filter (is_of id) (others before id xs) ≡ []
none_others true id xs none = none_without id xs
none_others false id xs none = none refl

-- ---- the row that is put in

-- is the only one of its id
put_alone : (id : List ℕ) (written : Row) (rest : List Row) (here k : ℕ) (x : Row) → filter (is_of id) rest ≡ [] → here ≤ length rest → slice_get (insert rest here written) k ≡ Some x → is_of id x ≡ true → x ≡ written
put_alone id written rest zero zero x none low at own = (let same : written ≡ x = cc in sym same)
put_alone id written rest zero (suc k) x none low at own = absurd (none_there (is_of id) rest k x none at own)
put_alone id written [] (suc here) k x none low at own = absurd (omega (arith, low))
put_alone id written (row ∷ rest) (suc here) zero x none low at own = absurd (none_there (is_of id) (row ∷ rest) zero x none at own)
put_alone id written (row ∷ rest) (suc here) (suc k) x none low at own =
    elim (cases_Bool (is_of id row)) [
      | inl e ↦ absurd (let g : row ∷ filter (is_of id) rest ≡ [] = rw e at none in cc)
      | inr e ↦ put_alone id written rest here k x (rw e at none) (omega (arith, low)) at own
    ]

-- also where it is put in by its order
placed_alone : (order : Order) (id : List ℕ) (written : Row) (rest : List Row) (k : ℕ) (x : Row) → filter (is_of id) rest ≡ [] → slice_get (placed (rows_cmp order) rest written) k ≡ Some x → is_of id x ≡ true → x ≡ written
placed_alone order id written [] zero x none at own = (let same : written ≡ x = cc in sym same)
placed_alone order id written [] (suc k) x none at own = absurd (cc)
placed_alone order id written (row ∷ rest) k x none at own =
    elim (cases_Bool (is_lt (rows_cmp order written row))) [
      | inl e ↦ first k (rw e at at)
      | inr e ↦ later k (rw e at at) (λ j low. placed_alone order id written rest j x (tail_none none) low own)
    ]
  where
    tail_none : filter (is_of id) (row ∷ rest) ≡ [] → filter (is_of id) rest ≡ []
    tail_none e = elim (cases_Bool (is_of id row)) [ inl f ↦ absurd (let g : row ∷ filter (is_of id) rest ≡ [] = rw f at e in cc) | inr f ↦ rw f at e ]

    first : (j : ℕ) → slice_get (written ∷ row ∷ rest) j ≡ Some x → x ≡ written
    first zero there = (let same : written ≡ x = cc in sym same)
    first (suc j) there = absurd (none_there (is_of id) (row ∷ rest) j x none there own)

    later : (j : ℕ) → slice_get (row ∷ placed (rows_cmp order) rest written) j ≡ Some x → ((i : ℕ) → slice_get (placed (rows_cmp order) rest written) i ≡ Some x → x ≡ written) → x ≡ written
    later zero there deep = absurd (none_there (is_of id) (row ∷ rest) zero x none there own)
    later (suc j) there deep = deep j there

-- and leaves the others
placed_without : (order : Order) (id : List ℕ) (written : Row) (rest : List Row) → is_of id written ≡ true → filter (is_of id) rest ≡ [] → without id (placed (rows_cmp order) rest written) ≡ rest
placed_without order id written [] own none = rw own refl
placed_without order id written (row ∷ rest) own none =
    elim (cases_Bool (is_of id row)) [
      | inl f ↦ absurd (let g : row ∷ filter (is_of id) rest ≡ [] = rw f at none in cc)
      | inr f ↦ (
          let tail : filter (is_of id) rest ≡ [] = rw f at none in
          elim (cases_Bool (is_lt (rows_cmp order written row))) [
            | inl e ↦ rw (e, own, f) (ap (λ l. row ∷ l) (filter_none (is_of id) rest tail))
            | inr e ↦ rw (e, f) (ap (λ l. row ∷ l) (placed_without order id written rest own tail))
          ]
          )
    ]

-- ---- the row at its position

-- a list whose ids are apart is the rows of the other ids, with the row of the id at its position
put_at_position : (id : List ℕ) (xs : List Row) → AreApart xs → (k : ℕ) → position_of id xs ≡ Some k → (x : Row) × (is_of id x ≡ true) × (k ≤ length (without id xs)) × (xs ≡ insert (without id xs) k x)
put_at_position id [] apart k e = absurd (cc)
put_at_position id (row ∷ xs) apart k e =
    elim (cases_Bool (is_of id row)) [
      | inl f ↦ (
          let g : Some 0 ≡ Some k = rw f at e in
          let s : 0 ≡ k = cc in
          let alone : without id xs ≡ xs = filter_none (is_of id) xs (apart_rest id row xs apart f) in
          let here : (x : Row) × (is_of id x ≡ true) × (0 ≤ length (without id (row ∷ xs))) × (row ∷ xs ≡ insert (without id (row ∷ xs)) 0 x) = (row, f, omega arith, rw f (ap (λ l. row ∷ l) (sym alone))) in
          subst (λ (n : ℕ). (x : Row) × (is_of id x ≡ true) × (n ≤ length (without id (row ∷ xs))) × (row ∷ xs ≡ insert (without id (row ∷ xs)) n x)) s here
          )
      | inr f ↦ later (position_of id xs) refl (λ j is. put_at_position id xs (apart_tail row xs apart) j is) f (rw f at e)
    ]
  where
    later : (p : Option ℕ) → position_of id xs ≡ p → ((j : ℕ) → position_of id xs ≡ Some j → (x : Row) × (is_of id x ≡ true) × (j ≤ length (without id xs)) × (xs ≡ insert (without id xs) j x)) → is_of id row ≡ false → option_map suc p ≡ Some k
        → (x : Row) × (is_of id x ≡ true) × (k ≤ length (without id (row ∷ xs))) × (row ∷ xs ≡ insert (without id (row ∷ xs)) k x)
    later None is deep f g = absurd (cc)
    later (Some j) is deep f g =
        let found = deep j is in
        let s : suc j ≡ k = cc in
        let low = found.2 in
        let here : (x : Row) × (is_of id x ≡ true) × (suc j ≤ length (without id (row ∷ xs))) × (row ∷ xs ≡ insert (without id (row ∷ xs)) (suc j) x) = (found.0, found.1, rw f (omega (arith, low)), rw f (ap (λ l. row ∷ l) found.3)) in
        subst (λ (n : ℕ). (x : Row) × (is_of id x ≡ true) × (n ≤ length (without id (row ∷ xs))) × (row ∷ xs ≡ insert (without id (row ∷ xs)) n x)) s here

none_position : (id : List ℕ) (xs : List Row) → position_of id xs ≡ None → filter (is_of id) xs ≡ []
none_position id [] e = refl
none_position id (row ∷ xs) e =
    elim (cases_Bool (is_of id row)) [
      | inl f ↦ absurd (let g : Some 0 ≡ None = rw f at e in cc)
      | inr f ↦ rw f (none_position id xs (no_suc (position_of id xs) (rw f at e)))
    ]
  where
    no_suc : (p : Option ℕ) → option_map suc p ≡ None → p ≡ None
    no_suc None g = refl
    no_suc (Some k) g = absurd (cc)

-- the list with the rows of the other ids and the position
at_position : (id : List ℕ) (xs : List Row) → AreApart xs → (row : Option Row) × (IsWith id (without id xs) (position_of id xs) row xs)
at_position id xs apart = by (position_of id xs) refl
  where
    by : (p : Option ℕ) → position_of id xs ≡ p → (row : Option Row) × (IsWith id (without id xs) p row xs)
    by None is = (None, record { put = sym (filter_none (is_of id) xs (none_position id xs is)); own = tt; apart = apart })
    by (Some k) is =
        let found = put_at_position id xs apart k is in
        (Some found.0, record { put = (found.2, found.3); own = (bytes_eq-Decides found.0.0 id).0 found.1; apart = apart })

-- ---- positions behind the window are all one

module _ (start end : ℕ) (some : start < end) (rows : List Row) where
  slid_below : (here there : Option ℕ) → IfSome (slid start end here there) (λ k. k < end)
  slid_below here there =
      elim (cases_Bool (is_before start here && not (is_before start there))) [
        | inl e ↦ rw e (omega (arith, some))
        | inr e ↦ elim (cases_Bool (is_behind end here && not (is_behind end there))) [ inl f ↦ rw (e, f) (omega (arith, some)) | inr f ↦ rw (e, f) tt ]
      ]

  name_far : (p : ℕ) → end ≤ p → (k : Option ℕ) → IfSome k (λ j. j < end) → name_of rows (Some p) k ≡ name_of rows None k
  name_far p far None low = refl
  name_far p far (Some k) low = (let e : ltb k p ≡ true = lt-ltb k p (omega (arith, far, low)) in rw e refl)

  shown_far : (p : ℕ) → end ≤ p → shown_at start end (Some p) ≡ None
  shown_far p far = (let e : ltb p end ≡ false = not_below p end far in by (leb start p) (ltb p end) e)
    where
      by : (a b : Bool) → b ≡ false → (if a && b then Some (p - start) else None) ≡ None
      by true b e = ap (λ c. if c then Some (p - start) else None) e
      by false b e = refl

  before_far : (p : ℕ) → end ≤ p → is_before start (Some p) ≡ is_before start None
  before_far p far = not_below p start (omega (arith, far, some))

  behind_far : (p : ℕ) → end ≤ p → is_behind end (Some p) ≡ is_behind end None
  behind_far p far = le-leb end p far

  slid_far_here : (p : ℕ) → end ≤ p → (there : Option ℕ) → slid start end (Some p) there ≡ slid start end None there
  slid_far_here p far there =
      ap₂ (λ a b. if a && not (is_before start there) then Some (start - 1) else (if b && not (is_behind end there) then Some (end - 1) else None)) (before_far p far) (behind_far p far)

  slid_far_there : (p : ℕ) → end ≤ p → (here : Option ℕ) → slid start end here (Some p) ≡ slid start end here None
  slid_far_there p far here =
      ap₂ (λ a b. if is_before start here && not a then Some (start - 1) else (if is_behind end here && not b then Some (end - 1) else None)) (before_far p far) (behind_far p far)

  old_far : (p : ℕ) → end ≤ p → (new : Option ℕ) → step_of start end rows (Some p) new ≡ step_of start end rows None new
  old_far p far new =
      ap (λ s. step_with (notice_of s (shown_at start end new)) (name_of rows new (slid start end new (Some p))) (name_of rows new (slid start end (Some p) new))) (shown_far p far)
      ∙ ap₂ (λ a b. step_with (notice_of None (shown_at start end new)) (name_of rows new a) (name_of rows new b)) (slid_far_there p far new) (slid_far_here p far new)

  new_far : (p : ℕ) → end ≤ p → (old : Option ℕ) → step_of start end rows old (Some p) ≡ step_of start end rows old None
  new_far p far old =
      ap (λ s. step_with (notice_of (shown_at start end old) s) (name_of rows (Some p) (slid start end (Some p) old)) (name_of rows (Some p) (slid start end old (Some p)))) (shown_far p far)
      ∙ ap₂ (λ a b. step_with (notice_of (shown_at start end old) None) a b)
      (name_far p far (slid start end (Some p) old) (slid_below (Some p) old) ∙ ap (name_of rows None) (slid_far_here p far old))
      (name_far p far (slid start end old (Some p)) (slid_below old (Some p)) ∙ ap (name_of rows None) (slid_far_there p far old))

  old_cut : (m : ℕ) → end ≤ m → (old new : Option ℕ) → step_of start end rows (cut_at m old) new ≡ step_of start end rows old new
  old_cut m le None new = refl
  old_cut m le (Some p) new =
      elim (cases_Bool (ltb p m)) [ inl e ↦ rw e refl | inr e ↦ (let high = ltb-false p m e in rw e (sym (old_far p (omega (arith, high, le)) new))) ]

  new_cut : (m : ℕ) → end ≤ m → (old new : Option ℕ) → step_of start end rows old (cut_at m new) ≡ step_of start end rows old new
  new_cut m le old None = refl
  new_cut m le old (Some p) =
      elim (cases_Bool (ltb p m)) [ inl e ↦ rw e refl | inr e ↦ (let high = ltb-false p m e in rw e (sym (new_far p (omega (arith, high, le)) old))) ]

-- ---- rows cut off behind the window

window_cut : (skip count m : ℕ) (xs : List Row) → skip + count ≤ m → take count (drop skip (take m xs)) ≡ take count (drop skip xs)
window_cut zero count m xs le = take-take count m xs (omega (arith, le))
window_cut (suc skip) count zero xs le = absurd (omega (arith, le))
window_cut (suc skip) count (suc m) [] le = refl
window_cut (suc skip) count (suc m) (x ∷ xs) le = window_cut skip count m xs (omega (arith, le))

shift_low : (p : Option ℕ) (k : ℕ) → shift p k ≤ suc k
shift_low None k = omega arith
shift_low (Some here) k = elim (cases_Bool (ltb k here)) [ inl e ↦ rw e (omega arith) | inr e ↦ rw e (omega arith) ]

-- the others among the first rows
found_in : (id : List ℕ) (rest : List Row) (p : Option ℕ) (row : Option Row) (rows : List Row) (m stop : ℕ) → IsWith id rest p row rows → stop < m → (k : ℕ) → k < stop → slice_get (take m rows) (shift p k) ≡ slice_get rest k
found_in id rest p row rows m stop is le k low =
    get_take m rows (shift p k) (let s = shift_low p k in omega (arith, s, le, low)) ∙ by p row is.put
  where
    by : (p : Option ℕ) (row : Option Row) → IsPutAt rest p row rows → slice_get rows (shift p k) ≡ slice_get rest k
    by None None put = ap (λ l. slice_get l k) put
    by None (Some x) put = absurd put
    by (Some here) None put = absurd put
    by (Some here) (Some x) put = ap (λ l. slice_get l (shift (Some here) k)) put.1 ∙ other_at x rest here k put.0

-- a row of the window is one of the rows
in_window : (skip count k : ℕ) (rows : List Row) (x : Row) → slice_get (take count (drop skip rows)) k ≡ Some x → slice_get rows (skip + k) ≡ Some x
in_window skip count k rows x at =
    let inside = slice_get_within (take count (drop skip rows)) k x at in
    let n = length-take count (drop skip rows) in
    sym (get_take count (drop skip rows) k (omega (arith, inside, n)) ∙ get_drop skip rows k) ∙ at

get_front : (xs ys : List Row) (k : ℕ) (x : Row) → slice_get xs k ≡ Some x → slice_get (xs ++ ys) k ≡ Some x
get_front [] ys k x at = absurd (cc)
get_front (y ∷ xs) ys zero x at = at
get_front (y ∷ xs) ys (suc k) x at = get_front xs ys k x at

-- ---- the new row

new_commit : (row : CommitRow) (after : Bool) (new : Row) → new_row row after ≡ Some new → new.1 ≡ row.commit
new_commit row false new e = absurd (cc)
new_commit row true new e = by row.after refl
  where
    by : (document : Option Tree) → row.after ≡ document → new.1 ≡ row.commit
    by None is = absurd (let f : new_row row true ≡ None = ap (option_map (λ (d : Tree). (row.id, row.commit, d))) is in cc)
    by (Some d) is = (let f : new_row row true ≡ Some (row.id, row.commit, d) = ap (option_map (λ (d : Tree). (row.id, row.commit, d))) is in let g : (row.id, row.commit, d) ≡ new = cc in ap (λ (r : Row). r.1) (sym g))

-- a row that is kept is the new one
kept_new : (order : Order) (whole : Bool) (rows : List Row) (new : Option Row) (x : Row) → kept_part order whole rows new ≡ Some x → new ≡ Some x
kept_new order whole rows None x e = absurd (cc)
kept_new order whole rows (Some new) x e =
    elim (cases_Bool (whole || reaches order (last_of rows) new)) [ inl f ↦ (rw f at e) | inr f ↦ absurd (let g : None ≡ Some x = rw f at e in cc) ]

-- ---- over a journal

module _ (following : Following) (set : Contents) (journal : List Change) (row : CommitRow) (verdict : Verdict) (stands : StandsFor set journal) (next : IsNext set journal row verdict) (own : row.collection ≡ set.query.collection) (some : 0 < set.query.take) where
  abbrev q : Query
  q = set.query

  abbrev stop : ℕ
  stop = q.skip + q.take

  abbrev rest : List Row
  rest = stands.first.rest

  abbrev whole_list : List Row
  whole_list = set.rows ++ rest

  step : Follows q journal next.before row
  step = step_is following set journal row verdict stands next

  same_list : matches q (docs journal next.before q.collection) ≡ whole_list
  same_list = parts following set journal row verdict stands next

  is_own : bytes_eq row.collection q.collection ≡ true
  is_own = (bytes_eq-Decides row.collection q.collection).1 own

  before_is : verdict.before ≡ false → filter (is_of row.id) whole_list ≡ []
  before_is e =
      subst (λ (l : List Row). filter (is_of row.id) l ≡ []) same_list
      (step.absent is_own (sym (ap (λ (v : Verdict). v.before) (told following set journal row verdict stands next)) ∙ e))

  apart_all : AreApart whole_list
  apart_all = subst AreApart same_list step.apart

  apart_kept : AreApart set.rows
  apart_kept = apart_front set.rows rest apart_all

  older : (k : ℕ) (x : Row) → slice_get set.rows k ≡ Some x → is_of row.id x ≡ true → x.1 < row.commit
  older k x at is = step.older is_own k x (subst (λ (l : List Row). slice_get l k ≡ Some x) (sym same_list) (get_front set.rows rest k x at)) is

  new_id : (x : Row) → new_row row verdict.after ≡ Some x → x.0 ≡ row.id
  new_id x e = (new_own row verdict.after x e).0

  abbrev all_new : List Row
  all_new = placed_if (rows_cmp q.order) (others verdict.before row.id whole_list) (new_row row verdict.after)

  after_is : matches q (docs journal (suc next.before) q.collection) ≡ all_new
  after_is = all_after following set journal row verdict stands next

  apart_new : AreApart all_new
  apart_new = subst AreApart after_is step.apart_after

  kept_none : verdict.before ≡ false → filter (is_of row.id) set.rows ≡ []
  kept_none e = empty_front (filter (is_of row.id) set.rows) (filter (is_of row.id) rest) (sym (filter-append (is_of row.id) set.rows rest) ∙ before_is e)

  -- ---- a step

  abbrev kept_others : List Row
  kept_others = others verdict.before row.id set.rows

  abbrev kept_row : Option Row
  kept_row = kept_part q.order set.whole set.rows (new_row row verdict.after)

  abbrev after : List Row
  after = rows_after set row verdict

  apart_after : AreApart after
  apart_after =
      let kept =
      kept_step q.order row.id set.rows rest (up following set journal row verdict stands next) set.whole verdict.before (new_row row verdict.after) stands.first.whole new_id
      (none_before following set journal row verdict stands next) in
      apart_front after kept.rest (subst AreApart kept.parts apart_new)

  kept_own : IfSome kept_row (λ r. r.0 ≡ row.id)
  kept_own = by kept_row refl
    where
      by : (r : Option Row) → kept_row ≡ r → IfSome r (λ x. x.0 ≡ row.id)
      by None e = tt
      by (Some x) e = new_id x (kept_new q.order set.whole set.rows (new_row row verdict.after) x e)

  absent_kept : filter (is_of row.id) kept_others ≡ []
  absent_kept = none_others verdict.before row.id set.rows kept_none

  -- the new row has the number of the commit
  newer : (p : Option ℕ) (r : Option Row) → kept_row ≡ r → IsPutAt kept_others p r after → (k : ℕ) (x : Row) → slice_get after k ≡ Some x → is_of row.id x ≡ true → x.1 ≡ row.commit
  newer None None e put k x at is = absurd (none_there (is_of row.id) kept_others k x absent_kept (subst (λ (l : List Row). slice_get l k ≡ Some x) put at) is)
  newer None (Some r) e put k x at is = absurd put
  newer (Some here) None e put k x at is = absurd put
  newer (Some here) (Some r) e put k x at is =
      let same = put_alone row.id r kept_others here k x absent_kept put.0 (subst (λ (l : List Row). slice_get l k ≡ Some x) put.1 at) is in
      ap (λ (r : Row). r.1) same ∙ new_commit row verdict.after r (kept_new q.order set.whole set.rows (new_row row verdict.after) r e)

  pub step_told : (new : Contents) (told : MatchStep) → new.query ≡ q → new.rows ≡ take (most_rows q) after → IsToldBy set row verdict new.rows told → IsStepBetween row.id (window_of set) (window_of new) told
  step_told new told query rows by =
      let old_with : IsWith row.id kept_others by.places.old by.are.old_row set.rows = record { put = by.are.old_put; own = by.are.old_id; apart = apart_kept } in
      let new_with : IsWith row.id kept_others by.places.new kept_row after = record { put = by.are.new_put; own = kept_own; apart = apart_after } in
      let between =
      step_is_between row.id kept_others (apart_others verdict.before row.id set.rows apart_kept) absent_kept q.skip q.take some by.places.old by.places.new by.are.old_row kept_row set.rows after (take (most_rows q) after) old_with new_with
      (found_in row.id kept_others by.places.new kept_row after (most_rows q) stop new_with (omega arith))
      (λ k x at there is. (
      let low = older (q.skip + k) x (in_window q.skip q.take k set.rows x at) is in
      let high = newer by.places.new kept_row refl by.are.new_put (q.skip + k) x (in_window q.skip q.take k after x there) is in
      omega (arith, low, high)
      )) in
      let shown : take q.take (drop q.skip after) ≡ window_of new =
      sym (window_cut q.skip q.take (most_rows q) after (omega arith)) ∙ ap (λ (l : List Row). take q.take (drop q.skip l)) (sym rows) ∙ ap (λ (p : Query). take p.take (drop p.skip new.rows)) (sym query) in
      let same : step_of q.skip stop (take (most_rows q) after) by.places.old by.places.new ≡ told =
      ap (λ (l : List Row). step_of q.skip stop l by.places.old by.places.new) (sym rows) ∙ sym by.told in
      subst₂ (λ (l : List Row) (s : MatchStep). IsStepBetween row.id (window_of set) l s) shown same between

  -- ---- a renewal

  abbrev all_others : List Row
  all_others = others verdict.before row.id whole_list

  absent_all : filter (is_of row.id) all_others ≡ []
  absent_all = none_others verdict.before row.id whole_list before_is

  -- the rows before are the others with the old row at its position
  old_with : (b : Bool) → verdict.before ≡ b → (r : Option Row) × (IsWith row.id (others b row.id whole_list) (place_where b row.id whole_list) r whole_list)
  old_with true e = at_position row.id whole_list apart_all
  old_with false e = (None, record { put = refl; own = tt; apart = apart_all })

  -- and those after it with the new one
  new_with : (r : Option Row) → new_row row verdict.after ≡ r → (o : Option Row) × (IsWith row.id all_others (position_of row.id (placed_if (rows_cmp q.order) all_others r)) o (placed_if (rows_cmp q.order) all_others r))
  new_with None e =
      let apart : AreApart all_others = subst (λ (r : Option Row). AreApart (placed_if (rows_cmp q.order) all_others r)) e apart_new in
      subst (λ (l : List Row). (o : Option Row) × (IsWith row.id l (position_of row.id all_others) o all_others)) (filter_none (is_of row.id) all_others absent_all) (at_position row.id all_others apart)
  new_with (Some r) e =
      let apart : AreApart (placed (rows_cmp q.order) all_others r) = subst (λ (r : Option Row). AreApart (placed_if (rows_cmp q.order) all_others r)) e apart_new in
      let mine : is_of row.id r ≡ true = (bytes_eq-Decides r.0 row.id).1 (new_id r e) in
      subst (λ (l : List Row). (o : Option Row) × (IsWith row.id l (position_of row.id (placed (rows_cmp q.order) all_others r)) o (placed (rows_cmp q.order) all_others r))) (placed_without q.order row.id r all_others mine absent_all)
      (at_position row.id (placed (rows_cmp q.order) all_others r) apart)

  newest : (r : Option Row) → new_row row verdict.after ≡ r → (k : ℕ) (x : Row) → slice_get (placed_if (rows_cmp q.order) all_others r) k ≡ Some x → is_of row.id x ≡ true → x.1 ≡ row.commit
  newest None e k x at is = absurd (none_there (is_of row.id) all_others k x absent_all at is)
  newest (Some r) e k x at is = ap (λ (r : Row). r.1) (placed_alone q.order row.id r all_others k x absent_all at is) ∙ new_commit row verdict.after r e

  oldest : (k : ℕ) (x : Row) → slice_get whole_list k ≡ Some x → is_of row.id x ≡ true → x.1 < row.commit
  oldest k x at is = step.older is_own k x (subst (λ (l : List Row). slice_get l k ≡ Some x) (sym same_list) at) is

  -- where the verdict says that there is none there is none
  where_new : place_where verdict.after row.id all_new ≡ position_of row.id all_new
  where_new = by verdict.after refl
    where
      by : (b : Bool) → verdict.after ≡ b → place_where b row.id all_new ≡ position_of row.id all_new
      by true e = refl
      by false e =
          let gone : all_new ≡ all_others = ap (λ (b : Bool). placed_if (rows_cmp q.order) all_others (new_row row b)) e in
          sym (ap (position_of row.id) gone ∙ position_gone)
        where
          position_gone : position_of row.id all_others ≡ None
          position_gone = no_position row.id all_others absent_all
            where
              no_position : (id : List ℕ) (xs : List Row) → filter (is_of id) xs ≡ [] → position_of id xs ≡ None
              no_position id [] none = refl
              no_position id (x ∷ xs) none =
                  elim (cases_Bool (is_of id x)) [
                    | inl f ↦ absurd (let g : x ∷ filter (is_of id) xs ≡ [] = rw f at none in cc)
                    | inr f ↦ (let g : filter (is_of id) xs ≡ [] = rw f at none in rw f (ap (option_map suc) (no_position id xs g)))
                  ]

  -- of the first rows the position is the same, or behind the window
  cut_where : (b : Bool) (n : ℕ) (rows : List Row) → place_where b row.id (take n rows) ≡ cut_at n (place_where b row.id rows)
  cut_where true n rows = position_take row.id n rows
  cut_where false n rows = refl

  -- where the kept rows end, behind the window, or at the end of all
  kept_end : (m : ℕ) × (stop ≤ m) × (set.rows ≡ take m whole_list)
  kept_end = by (cases_Bool set.whole)
    where
      by : (set.whole ≡ true) ⊎ (set.whole ≡ false) → (m : ℕ) × (stop ≤ m) × (set.rows ≡ take m whole_list)
      by (inl w) =
          let all : whole_list ≡ set.rows = ap (λ l. set.rows ++ l) (stands.first.whole w) ∙ append-nil set.rows in
          (stop + length set.rows, omega arith, sym (ap (take (stop + length set.rows)) all ∙ take_all (stop + length set.rows) set.rows (omega arith)))
      by (inr part) =
          let long = stands.first.window part in
          (length set.rows, omega (arith, long), sym (take-append-le (length set.rows) set.rows rest (omega arith) ∙ take_all (length set.rows) set.rows (omega arith)))

  pub renewal_told : (new : Contents) (told : MatchStep) → new.query ≡ q → new.rows ≡ take (most_rows q) (matches q (docs journal row.commit q.collection))
      → told ≡ step_in q new.rows (place_where verdict.before row.id set.rows) (place_where verdict.after row.id new.rows) → IsStepBetween row.id (window_of set) (window_of new) told
  renewal_told new told query rows_are is =
      let at : row.commit ≡ suc next.before = commit_is following set journal row verdict stands next in
      let rows : new.rows ≡ take (most_rows q) all_new =
      rows_are ∙ ap (λ (n : ℕ). take (most_rows q) (matches q (docs journal n q.collection))) at ∙ ap (take (most_rows q)) after_is in
      let (old_row, before_with) = old_with verdict.before refl in
      let (put_row, after_with) = new_with (new_row row verdict.after) refl in
      let (m, far, kept) = kept_end in
      let between =
      step_is_between row.id all_others (apart_others verdict.before row.id whole_list apart_all) absent_all q.skip q.take some (place_where verdict.before row.id whole_list) (position_of row.id all_new) old_row put_row whole_list all_new (take (most_rows q) all_new) before_with after_with
      (found_in row.id all_others (position_of row.id all_new) put_row all_new (most_rows q) stop after_with (omega arith))
      (λ k x here there is. (
      let low = oldest (q.skip + k) x (in_window q.skip q.take k whole_list x here) is in
      let high = newest (new_row row verdict.after) refl (q.skip + k) x (in_window q.skip q.take k all_new x there) is in
      omega (arith, low, high)
      )) in
      let some_shown : q.skip < stop = omega (arith, some) in
      let shown_old : take q.take (drop q.skip whole_list) ≡ window_of set =
      sym (window_cut q.skip q.take m whole_list far) ∙ ap (λ (l : List Row). take q.take (drop q.skip l)) (sym kept) in
      let shown_new : take q.take (drop q.skip all_new) ≡ window_of new =
      sym (window_cut q.skip q.take (most_rows q) all_new (omega arith)) ∙ ap (λ (l : List Row). take q.take (drop q.skip l)) (sym rows) ∙ ap (λ (p : Query). take p.take (drop p.skip new.rows)) (sym query) in
      let old_place : place_where verdict.before row.id set.rows ≡ cut_at m (place_where verdict.before row.id whole_list) =
      ap (place_where verdict.before row.id) kept ∙ cut_where verdict.before m whole_list in
      let new_place : place_where verdict.after row.id new.rows ≡ cut_at (most_rows q) (position_of row.id all_new) =
      ap (place_where verdict.after row.id) rows ∙ cut_where verdict.after (most_rows q) all_new ∙ ap (cut_at (most_rows q)) where_new in
      let same : step_of q.skip stop (take (most_rows q) all_new) (place_where verdict.before row.id whole_list) (position_of row.id all_new) ≡ told =
      sym (old_cut q.skip stop some_shown (take (most_rows q) all_new) m far (place_where verdict.before row.id whole_list) (position_of row.id all_new))
      ∙ sym (new_cut q.skip stop some_shown (take (most_rows q) all_new) (most_rows q) (omega arith) (cut_at m (place_where verdict.before row.id whole_list)) (position_of row.id all_new))
      ∙ ap₂ (λ (o n : Option ℕ). step_of q.skip stop (take (most_rows q) all_new) o n) (sym old_place) (sym new_place)
      ∙ ap (λ (l : List Row). step_of q.skip stop l (place_where verdict.before row.id set.rows) (place_where verdict.after row.id new.rows)) (sym rows)
      ∙ sym is in
      subst (λ (s : MatchStep). IsStepBetween row.id (window_of set) (window_of new) s) same
      (subst₂ (λ (a b : List Row). IsStepBetween row.id a b (step_of q.skip stop (take (most_rows q) all_new) (place_where verdict.before row.id whole_list) (position_of row.id all_new))) shown_old shown_new between)
