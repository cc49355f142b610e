-- An edit of the rows and its reverse.
use Rattle.std.proofs.Common.{◌≡◌, ℕ, zero, suc, ◌<◌, ◌≤◌, Bool, false, List, [], ◌∷◌, ◌++◌, length, Option, Some, None, option_map, IfSome, slice_get, refl, sym, ap, ap₂, ◌∙◌, subst, arith}
use Rattle.std.specs.List.{insert, remove}
use Rattle.std.proofs.lemmas.List.Edits.{length-insert, length-remove}
use Rattle.std.proofs.lemmas.Option.{slice_get_within}
use Rattle.query_core.specs.Changes.{list_of}
use Rattle.query_core.specs.Window.{Row}
use Rattle.commit_book.specs.declared.change.CommitRow.{CommitRow}
use Rattle.query_core.specs.declared.query.Verdict.{Verdict}
use Rattle.match_sets.specs.declared.steps.MatchStep.{MatchStep}
use Rattle.match_sets.specs.declared.undo.Places.{Places}
use Rattle.match_sets.specs.declared.undo.Rewind.{Rewind}
use Rattle.match_sets.specs.declared.undo.Rewind.TheVariants.{Step, Renewal}
use Rattle.match_sets.specs.declared.undo.Undo.{Undo}
use Rattle.match_sets.specs.Contents.{Contents, IsStepRewind, IsRewind, IsMade, IsSame, ArePlaced, IsToldBy, rows_after}
use Rattle.match_sets.specs.Told.{step_in}
use Rattle.match_sets.specs.Windows.{quiet}
use Rattle.match_sets.specs.Rows.{IsTaken, IsPutAt, others, kept_part, new_row, un_put, un_taken}

pub remove_insert : {X : Type 0} (xs : List X) (i : ℕ) (y : X) → i ≤ length xs → remove (insert xs i y) i ≡ xs
remove_insert xs zero y within = refl
remove_insert [] (suc i) y within = absurd (omega arith)
remove_insert (x ∷ xs) (suc i) y within = ap (λ l. x ∷ l) (remove_insert xs i y (omega arith))

pub insert_remove : {X : Type 0} (xs : List X) (i : ℕ) (y : X) → slice_get xs i ≡ Some y → insert (remove xs i) i y ≡ xs
insert_remove [] i y at = absurd (cc)
insert_remove (x ∷ xs) zero y at = (let same : x ≡ y = cc in ap (λ z. z ∷ xs) (sym same))
insert_remove (x ∷ xs) (suc i) y at = ap (λ l. x ∷ l) (insert_remove xs i y at)

put_back : (without : List Row) (put : Option ℕ) (new : Option Row) (after : List Row) → IsPutAt without put new after → un_put put after ≡ without
put_back without None None after is = is
put_back without None (Some row) after is = absurd is
put_back without (Some position) None after is = absurd is
put_back without (Some position) (Some row) after is = ap (λ l. remove l position) is.1 ∙ remove_insert without position row is.0

take_back : (before : List Row) (taken : Option (ℕ × Row)) (without : List Row) → IsTaken before taken without → un_taken taken without ≡ before
take_back before None without is = is
take_back before (Some taken) without is = ap (λ l. insert l taken.0 taken.1) is.1 ∙ insert_remove before taken.0 taken.1 is.0

-- the rows are those of before
pub rows_back : (before : Contents) (taken : Option (ℕ × Row)) (put : Option ℕ) (cut : Option Row) (after : Contents) → IsStepRewind before taken put cut after
    → un_taken taken (un_put put (after.rows ++ list_of cut)) ≡ before.rows
rows_back before taken put cut after is = ap (un_taken taken) (put_back is.without put is.new (after.rows ++ list_of cut) is.put_is) ∙ take_back before.rows taken is.without is.taken_is

-- the position at which a row was put in is there
put_there : (without : List Row) (put : Option ℕ) (new : Option Row) (after : List Row) → IsPutAt without put new after → IfSome put (λ position. position < length after)
put_there without None new after is = tt
put_there without (Some position) None after is = absurd is
put_there without (Some position) (Some row) after is = (let e = ap length is.1 in let long = length-insert without position row is.0 in omega (arith, e, long, is.0))

pub put_within : (before : Contents) (taken : Option (ℕ × Row)) (put : Option ℕ) (cut : Option Row) (after : Contents) → IsStepRewind before taken put cut after
    → IfSome put (λ position. position < length (after.rows ++ list_of cut))
put_within before taken put cut after is = put_there is.without put is.new (after.rows ++ list_of cut) is.put_is

-- that from which a row was taken out is there, and there is memory for the row
taken_there : (before : List Row) (taken : Option (ℕ × Row)) (without : List Row) (capacity : ℕ) → IsTaken before taken without → length before ≤ capacity
    → IfSome taken (λ t. (t.0 ≤ length without) × (length without < capacity))
taken_there before None without capacity is fits = tt
taken_there before (Some taken) without capacity is fits =
    let inside = slice_get_within before taken.0 taken.1 is.0 in
    let e = ap length is.1 in
    let long = length-remove before taken.0 inside in
    (omega (arith, e, long, inside), omega (arith, e, long, inside, fits))

pub taken_within : (before : Contents) (taken : Option (ℕ × Row)) (put : Option ℕ) (cut : Option Row) (after : Contents) (capacity : ℕ) → IsStepRewind before taken put cut after → after.capacity ≤ capacity
    → IfSome taken (λ t. (t.0 ≤ length (un_put put (after.rows ++ list_of cut))) × (length (un_put put (after.rows ++ list_of cut)) < capacity))
taken_within before taken put cut after capacity is more =
    subst (λ (l : List Row). IfSome taken (λ t. (t.0 ≤ length l) × (length l < capacity))) (sym (put_back is.without put is.new (after.rows ++ list_of cut) is.put_is))
    (taken_there before.rows taken is.without capacity is.taken_is (omega (arith, is.fits, more)))

-- ---- the row that was taken out is at its position among the others

taken_put : (before : List Row) (taken : Option (ℕ × Row)) (after : List Row) → IsTaken before taken after → IsPutAt after (option_map (λ t. t.0) taken) (option_map (λ t. t.1) taken) before
taken_put before None after is = sym is
taken_put before (Some taken) after is =
    let inside = slice_get_within before taken.0 taken.1 is.0 in
    let e = ap length is.1 in
    let long = length-remove before taken.0 inside in
    (omega (arith, e, long, inside), sym (ap (λ l. insert l taken.0 taken.1) is.1 ∙ insert_remove before taken.0 taken.1 is.0))

taken_id : (taken : Option (ℕ × Row)) (id : List ℕ) → IfSome taken (λ t. t.1.0 ≡ id) → IfSome (option_map (λ (t : ℕ × Row). t.1) taken) (λ (row : Row). row.0 ≡ id)
taken_id None id own = tt
taken_id (Some taken) id own = own

-- the positions of both
pub are_placed : (rows : List Row) (id : List ℕ) (taken : Option (ℕ × Row)) (without rest : List Row) (new : Option Row) (after : List Row) (places : Places) → IsTaken rows taken without → IfSome taken (λ t. t.1.0 ≡ id)
    → without ≡ rest → places.old ≡ option_map (λ t. t.0) taken → IsPutAt without places.new new after → ArePlaced rows id rest new after places
are_placed rows id taken without rest new after places is own same old put = record {
  old_row = option_map (λ t. t.1) taken;
  old_id = taken_id taken id own;
  old_put =
      subst (λ (l : List Row). IsPutAt l places.old (option_map (λ t. t.1) taken) rows) same
      (subst (λ (p : Option ℕ). IsPutAt without p (option_map (λ t. t.1) taken) rows) (sym old) (taken_put rows taken without is));
  new_put = subst (λ (l : List Row). IsPutAt l places.new new after) same put;
}

-- ---- where the verdict is (false, false) nothing is told

put_none : (xs : List Row) (p : Option ℕ) (ys : List Row) → IsPutAt xs p None ys → p ≡ None
put_none xs None ys is = refl
put_none xs (Some p) ys is = absurd is

put_same : (xs : List Row) (p : Option ℕ) (row : Option Row) → IsPutAt xs p row xs → p ≡ None
put_same xs None row is = refl
put_same xs (Some p) None is = absurd is
put_same xs (Some p) (Some row) is = absurd (let e = ap length is.1 in let long = length-insert xs p row is.0 in omega (arith, e, long))

pub quiet_told : (set : Contents) (row : CommitRow) (verdict : Verdict) (rows : List Row) (step : MatchStep) → verdict ≡ record { before = false; after = false } → IsToldBy set row verdict rows step → step ≡ quiet
quiet_told set row verdict rows step is by =
    let before : verdict.before ≡ false = ap (λ (v : Verdict). v.before) is in
    let after : verdict.after ≡ false = ap (λ (v : Verdict). v.after) is in
    let old : by.places.old ≡ None =
    put_same set.rows by.places.old by.are.old_row (subst (λ (b : Bool). IsPutAt (others b row.id set.rows) by.places.old by.are.old_row set.rows) before by.are.old_put) in
    let new : by.places.new ≡ None =
    put_none (others verdict.before row.id set.rows) by.places.new (rows_after set row verdict)
    (subst (λ (b : Bool). IsPutAt (others verdict.before row.id set.rows) by.places.new (kept_part set.query.order set.whole set.rows (new_row row b)) (rows_after set row verdict)) after by.are.new_put) in
    by.told ∙ ap₂ (λ (o n : Option ℕ). step_in set.query rows o n) old new

pub quiet_rows : (set : Contents) (row : CommitRow) (verdict : Verdict) → verdict ≡ record { before = false; after = false } → rows_after set row verdict ≡ set.rows
quiet_rows set row verdict is = ap (rows_after set row) is

-- ---- rows taken back

-- the premise of the reverse of a step
pub rewound : (before after : Contents) (rows : Rewind) (taken : Option (ℕ × Row)) (put : Option ℕ) (cut : Option Row) → rows ≡ Step taken put cut → IsRewind before rows after → IsStepRewind before taken put cut after
rewound before after rows taken put cut is there = subst (λ (r : Rewind). IsRewind before r after) is there

pub untake_fits : (before after : Contents) (taken : Option (ℕ × Row)) (put : Option ℕ) (cut : Option Row) (uncut unput : List Row) (capacity : ℕ) → IsStepRewind before taken put cut after → uncut ≡ after.rows ++ list_of cut → unput ≡ un_put put uncut
    → after.capacity ≤ capacity → IfSome taken (λ t. (t.0 ≤ length unput) × (length unput < capacity))
untake_fits before after taken put cut uncut unput capacity is first second more =
    subst (λ (l : List Row). IfSome taken (λ t. (t.0 ≤ length l) × (length l < capacity))) (sym (second ∙ ap (un_put put) first)) (taken_within before taken put cut after capacity is more)

pub rows_rewound : (before after : Contents) (taken : Option (ℕ × Row)) (put : Option ℕ) (cut : Option Row) (uncut unput untaken : List Row) → IsStepRewind before taken put cut after → uncut ≡ after.rows ++ list_of cut → unput ≡ un_put put uncut → untaken ≡ un_taken taken unput
    → untaken ≡ before.rows
rows_rewound before after taken put cut uncut unput untaken is first second third =
    third ∙ ap (un_taken taken) (second ∙ ap (un_put put) first) ∙ rows_back before taken put cut after is

-- a step after more memory was taken
pub made_from : (a b c : Contents) (undo : Undo) → IsSame a b → IsMade b undo c → IsMade a undo c
made_from a b c undo same made = record {
  at = made.at ∙ same.at;
  whole = made.whole ∙ same.whole;
  query = made.query ∙ same.query;
  rows = by undo.rows made.rows;
}
  where
    by : (r : Rewind) → IsRewind b r c → IsRewind a r c
    by (Step taken put cut) is = record {
      without = is.without;
      new = is.new;
      taken_is = subst (λ (l : List Row). IsTaken l taken is.without) same.rows is.taken_is;
      put_is = is.put_is;
      full = is.full;
      fits = (let n = ap length same.rows in omega (arith, n, is.fits));
      capacity = omega (arith, same.capacity, is.capacity);
    }
    by (Renewal rows) is = (is.0 ∙ same.rows, omega (arith, same.capacity, is.1))

-- and before later steps that were taken back
pub made_to : (a b c : Contents) (undo : Undo) → IsMade a undo b → IsSame b c → IsMade a undo c
made_to a b c undo made same = record {
  at = made.at;
  whole = made.whole;
  query = same.query ∙ made.query;
  rows = by undo.rows made.rows;
}
  where
    by : (r : Rewind) → IsRewind a r b → IsRewind a r c
    by (Step taken put cut) is = record {
      without = is.without;
      new = is.new;
      taken_is = is.taken_is;
      put_is = subst (λ (l : List Row). IsPutAt is.without put is.new (l ++ list_of cut)) (sym same.rows) is.put_is;
      full = (let n = ap (λ (l : List Row). length (l ++ list_of cut)) same.rows in omega (arith, n, is.full, same.capacity));
      fits = omega (arith, same.capacity, is.fits);
      capacity = omega (arith, same.capacity, is.capacity);
    }
    by (Renewal rows) is = is
