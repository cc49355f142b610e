-- What one commit makes of the rows.
use Rattle.std.proofs.Common.{◌≡◌, ℕ, suc, ◌+◌, ◌-◌, ◌≤◌, leb, List, [], ◌∷◌, length, take, Bool, true, false, not, ◌&&◌, ◌||◌, inl, inr, Option, Some, None, is_some, option_map, IfSome, refl, sym, ap, ap₂, ◌∙◌, subst, subst₂, arith, if◌then◌else◌}
use Rattle.std.specs.List.{filter}
use Rattle.std.specs.Ordering.{is_lt}
use Rattle.std.proofs.lemmas.Bool.{cases_Bool}
use Rattle.q_doc.specs.Tree.{Tree}
use Rattle.commit_book.specs.declared.change.CommitRow.{CommitRow}
use Rattle.query_core.specs.Changes.{is_of, placed_if}
use Rattle.query_core.specs.Window.{Row, Order, rows_cmp, placed, in_order}
use Rattle.query_core.proofs.Rising.{filter-in_order}
use Rattle.query_core.proofs.RowOrder.{rows_cmp_total}
use Rattle.match_sets.specs.declared.undo.Places.{Places}
use Rattle.query_core.specs.declared.query.Query.{Query}
use Rattle.query_core.specs.declared.query.Verdict.{Verdict}
use Rattle.match_sets.specs.declared.steps.MatchStep.{MatchStep}
use Rattle.match_sets.specs.Told.{step_in}
use Rattle.match_sets.specs.Contents.{Contents, ArePlaced, IsSame, IsToldBy, most_rows, rows_with, rows_after}
use Rattle.match_sets.specs.Rows.{IsTaken, IsPutAt, IsReady, others, kept_part, reaches, last_of, count_of, new_row}
use Rattle.match_sets.proofs.UndoLemmas.{are_placed}

module _ (order : Order) where
  placed_length : (rows : List Row) (new : Row) → length (placed (rows_cmp order) rows new) ≡ suc (length rows)
  placed_length [] new = refl
  placed_length (x ∷ rows) new = elim (cases_Bool (is_lt (rows_cmp order new x))) [ inl e ↦ rw e refl | inr e ↦ rw e (ap suc (placed_length rows new)) ]

  pub length_with : (rows : List Row) (new : Option Row) → length (placed_if (rows_cmp order) rows new) ≡ length rows + count_of (is_some new)
  length_with rows None = omega arith
  length_with rows (Some new) = (let n = placed_length rows new in omega (arith, n))

  -- the number of rows after a commit
  pub counted : (rows rest : List Row) (new : Option Row) (n a b : ℕ) → n ≡ length rows → length rows ≡ length rest + a → b ≡ count_of (is_some new) → n - a + b ≡ length (placed_if (rows_cmp order) rest new)
  counted rows rest new n a b size taken put = (let m = length_with rest new in omega (arith, size, taken, put, m))

  pub counted_rows : (whole before : Bool) (row : CommitRow) (rows slice : List Row) (new : Option Row) (had has : Bool) (a b : ℕ) → slice ≡ rows
      → (IsReady order row before slice → length slice ≡ length (others before row.id slice) + count_of had) → a ≡ count_of had → has ≡ is_some (kept_part order whole slice new) → b ≡ count_of has → IsReady order row before rows
      → length slice - a + b ≡ length (placed_if (rows_cmp order) (others before row.id rows) (kept_part order whole rows new))
  counted_rows whole before row rows slice new had has a b same old a_is has_is b_is ready =
      let fewer = subst (λ (l : List Row). IsReady order row before l → length l ≡ length (others before row.id l) + count_of had) same old in
      counted rows (others before row.id rows) (kept_part order whole rows new) (length slice) a b (ap length same) (fewer ready ∙ ap (λ n. length (others before row.id rows) + n) (sym a_is))
      (b_is ∙ ap count_of (has_is ∙ ap (λ (l : List Row). is_some (kept_part order whole l new)) same))

  -- the others are in order
  pub others_in_order : (before : Bool) (id : List ℕ) (rows : List Row) → in_order (rows_cmp order) rows ≡ rows → in_order (rows_cmp order) (others before id rows) ≡ others before id rows
  others_in_order false id rows up = up
  others_in_order true id rows up = sym (filter-in_order (rows_cmp order) (rows_cmp_total order) (λ row. not (is_of id row)) rows) ∙ ap (filter (λ row. not (is_of id row))) up

  -- they are no more than there were
  others_fewer : (before : Bool) (id : List ℕ) (rows : List Row) → length (others before id rows) ≤ length rows
  others_fewer false id rows = omega arith
  others_fewer true id [] = omega arith
  others_fewer true id (x ∷ rows) = (let deep = others_fewer true id rows in elim (cases_Bool (is_of id x)) [ inl e ↦ rw e (omega (arith, deep)) | inr e ↦ rw e (omega (arith, deep)) ])

  one_more : (new : Option Row) → count_of (is_some new) ≤ 1
  one_more None = omega arith
  one_more (Some new) = omega arith

-- whether a new row is kept
pub is_kept : (order : Order) (whole : Bool) (rows : List Row) (row : CommitRow) (document : Tree) (after : Bool) → row.after ≡ Some document → after ≡ true
    → (whole || reaches order (last_of rows) (row.id, row.commit, document)) ≡ is_some (kept_part order whole rows (new_row row after))
is_kept order whole rows row document after is on =
    kept (row.id, row.commit, document)
    ∙ ap (λ (n : Option Row). is_some (kept_part order whole rows n)) (sym (ap (option_map (λ (d : Tree). (row.id, row.commit, d))) is))
    ∙ ap (λ (b : Bool). is_some (kept_part order whole rows (new_row row b))) (sym on)
  where
    some_if : (b : Bool) (new : Row) → b ≡ is_some (if b then Some new else None)
    some_if true new = refl
    some_if false new = refl

    kept : (new : Row) → (whole || reaches order (last_of rows) new) ≡ is_some (kept_part order whole rows (Some new))
    kept new = some_if (whole || reaches order (last_of rows) new) new

-- ---- one change, edit by edit

module _ (order : Order) (whole before : Bool) (limit bound : ℕ) (bound_is : bound ≡ limit) (row : CommitRow) (rows slice taken_rows put_rows cut_rows : List Row) (slice_is : slice ≡ rows) (new kept : Option Row) (taken : Option (ℕ × Row)) (put : Option ℕ) (cut : Option Row) (kept_slice : kept ≡ kept_part order whole slice new) (taken_is : IsTaken rows taken taken_rows) (own : IfSome taken (λ t. t.1.0 ≡ row.id)) (without_is : IsReady order row before rows → taken_rows ≡ others before row.id rows) (put_is : IsPutAt taken_rows put kept put_rows) (placed_is : in_order (rows_cmp order) taken_rows ≡ taken_rows → put_rows ≡ placed_if (rows_cmp order) taken_rows kept) (cut_bound : length put_rows ≤ bound + 1 → cut_rows ≡ take bound put_rows) (is_cut_bound : is_some cut ≡ not (leb (length put_rows) bound)) (ready : IsReady order row before rows) where
  abbrev after : List Row
  after = placed_if (rows_cmp order) (others before row.id rows) (kept_part order whole rows new)

  kept_is : kept ≡ kept_part order whole rows new
  kept_is = kept_slice ∙ ap (λ (l : List Row). kept_part order whole l new) slice_is

  cut_is : length put_rows ≤ limit + 1 → cut_rows ≡ take limit put_rows
  cut_is = subst (λ (n : ℕ). length put_rows ≤ n + 1 → cut_rows ≡ take n put_rows) bound_is cut_bound

  is_cut : is_some cut ≡ not (leb (length put_rows) limit)
  is_cut = is_cut_bound ∙ ap (λ (n : ℕ). not (leb (length put_rows) n)) bound_is

  put_after : put_rows ≡ after
  put_after =
      placed_is (subst (λ (l : List Row). in_order (rows_cmp order) l ≡ l) (sym (without_is ready)) (others_in_order order before row.id rows ready.in_order))
      ∙ ap₂ (λ (l : List Row) (n : Option Row). placed_if (rows_cmp order) l n) (without_is ready) kept_is

  pub rows_changed : length rows ≤ limit → cut_rows ≡ take limit after
  rows_changed few =
      let size = ap length put_after in
      let more = length_with order (others before row.id rows) (kept_part order whole rows new) in
      let fewer = others_fewer order before row.id rows in
      let one = one_more order (kept_part order whole rows new) in
      cut_is (omega (arith, size, more, fewer, one, few)) ∙ ap (take limit) put_after

  pub whole_changed : (whole && not (is_some cut)) ≡ (whole && leb (length after) limit)
  whole_changed = ap (λ b. whole && not b) is_cut ∙ ap (λ b. whole && b) (not_not (leb (length put_rows) limit)) ∙ ap (λ (l : List Row). whole && leb (length l) limit) put_after
    where
      not_not : (b : Bool) → not (not b) ≡ b
      not_not true = refl
      not_not false = refl

  pub placed_changed : (places : Places) → places.old ≡ option_map (λ t. t.0) taken → places.new ≡ put → ArePlaced rows row.id (others before row.id rows) (kept_part order whole rows new) after places
  placed_changed places old at =
      subst₂ (λ (n : Option Row) (l : List Row). ArePlaced rows row.id (others before row.id rows) n l places) kept_is put_after
      (are_placed rows row.id taken taken_rows (others before row.id rows) kept put_rows places taken_is own (without_is ready) old (subst (λ (p : Option ℕ). IsPutAt taken_rows p kept put_rows) (sym at) put_is))

-- ---- the same after more memory was taken

module _ (old mid : Contents) (row : CommitRow) (verdict : Verdict) (new : Option Row) (same : IsSame old mid) (new_is : new ≡ new_row row verdict.after) where
  carried : (F : Query → List Row → Bool → Option Row → Type 0) → F mid.query mid.rows mid.whole new → F old.query old.rows old.whole (new_row row verdict.after)
  carried F f =
      subst (λ (q : Query). F q old.rows old.whole (new_row row verdict.after)) same.query
      (subst (λ (l : List Row). F mid.query l old.whole (new_row row verdict.after)) same.rows
      (subst (λ (w : Bool). F mid.query mid.rows w (new_row row verdict.after)) same.whole (subst (λ (n : Option Row). F mid.query mid.rows mid.whole n) new_is f)))

  abbrev with_new : Query → List Row → Bool → Option Row → List Row
  with_new q l w n = placed_if (rows_cmp q.order) (others verdict.before row.id l) (kept_part q.order w l n)

  pub applied_rows : (out : List Row) → (IsReady mid.query.order row verdict.before mid.rows → length mid.rows ≤ most_rows mid.query → out ≡ take (most_rows mid.query) (rows_with mid row.id verdict.before new))
      → IsReady old.query.order row verdict.before old.rows → length old.rows ≤ most_rows old.query → out ≡ take (most_rows old.query) (rows_after old row verdict)
  applied_rows out = carried (λ q l w n. IsReady q.order row verdict.before l → length l ≤ most_rows q → out ≡ take (most_rows q) (with_new q l w n))

  pub applied_whole : (out : Bool) → (IsReady mid.query.order row verdict.before mid.rows → out ≡ (mid.whole && leb (length (rows_with mid row.id verdict.before new)) (most_rows mid.query)))
      → IsReady old.query.order row verdict.before old.rows → out ≡ (old.whole && leb (length (rows_after old row verdict)) (most_rows old.query))
  applied_whole out = carried (λ q l w n. IsReady q.order row verdict.before l → out ≡ (w && leb (length (with_new q l w n)) (most_rows q)))

  pub applied_placed : (places : Places) → (IsReady mid.query.order row verdict.before mid.rows → ArePlaced mid.rows row.id (others verdict.before row.id mid.rows) (kept_part mid.query.order mid.whole mid.rows new) (rows_with mid row.id verdict.before new) places)
      → IsReady old.query.order row verdict.before old.rows → ArePlaced old.rows row.id (others verdict.before row.id old.rows) (kept_part old.query.order old.whole old.rows (new_row row verdict.after)) (rows_after old row verdict) places
  applied_placed places = carried (λ q l w n. IsReady q.order row verdict.before l → ArePlaced l row.id (others verdict.before row.id l) (kept_part q.order w l n) (with_new q l w n) places)

-- what is told by the positions
pub told_made : (old new : Contents) (row : CommitRow) (verdict : Verdict) (places : Places) (step : MatchStep) → new.query ≡ old.query
    → (IsReady old.query.order row verdict.before old.rows → ArePlaced old.rows row.id (others verdict.before row.id old.rows) (kept_part old.query.order old.whole old.rows (new_row row verdict.after)) (rows_after old row verdict) places)
    → step ≡ step_in new.query new.rows places.old places.new → IsReady old.query.order row verdict.before old.rows → IsToldBy old row verdict new.rows step
told_made old new row verdict places step query placed told ready = record {
  places = places;
  are = placed ready;
  told = told ∙ ap (λ (q : Query). step_in q new.rows places.old places.new) query;
}
