-- Internal. What contracts see of a match set, and what it stands for.
use Rattle.std.specs.Prelude.{◌≡◌, ◌≤◌, IfSome, ℕ, suc, ◌+◌, Bool, true, false, not, ◌&&◌, List, [], ◌++◌, Option, Some, length, take, drop, slice_get, nat_lt}
use Rattle.std.specs.Vec.{vec_capacity}
use Rattle.commit_book.specs.declared.change.Change.{Change}
use Rattle.commit_book.specs.declared.change.CommitRow.{CommitRow}
use Rattle.commit_book.specs.CommitRows.{commit_row}
use Rattle.commit_book.specs.Documents.{docs}
use Rattle.query_core.specs.declared.query.Query.{Query}
use Rattle.query_core.specs.declared.query.Verdict.{Verdict}
use Rattle.query_core.specs.Changes.{placed_if, list_of}
use Rattle.query_core.specs.Window.{Row, rows_cmp, matches}
use Rattle.match_sets.specs.declared.steps.MatchStep.{MatchStep}
use Rattle.match_sets.specs.declared.undo.Places.{Places}
use Rattle.match_sets.specs.declared.undo.Rewind.{Rewind}
use Rattle.match_sets.specs.declared.undo.Rewind.TheVariants.{Step, Renewal}
use Rattle.match_sets.specs.declared.undo.Undo.{Undo}
use Rattle.match_sets.specs.Follow.{verdict_on, ArePassing}
use Rattle.match_sets.specs.Told.{step_in}
use Rattle.match_sets.specs.Rows.{new_row, others, kept_part, IsTaken, IsPutAt}

-- The query, the commit, the first rows that satisfy in the order of the query, whether these are all, and for how many
-- rows there is memory.
pub record Contents : Type 0 where
  pub query : Query
  pub at : ℕ
  pub rows : List Row
  pub whole : Bool
  pub capacity : ℕ

-- ---- what a set stands for

-- how many rows are kept beyond the window
abbrev pub slack : ℕ
slack = 100

-- how many rows a set keeps at most
abbrev pub most_rows : Query → ℕ
most_rows q = q.skip + q.take + slack

-- The set keeps the first of these rows: all of them where it is whole, else those of the window at least.
pub record HasFirst (set : Contents) (all : List Row) : Type 0 where
  pub rest : List Row
  pub parts : all ≡ set.rows ++ rest
  pub whole : set.whole ≡ true → rest ≡ []
  pub window : set.whole ≡ false → set.query.skip + set.query.take ≤ length set.rows
  pub most : length set.rows ≤ most_rows set.query

-- the set keeps the first rows that satisfy its query at its commit of the journal
pub record StandsFor (set : Contents) (journal : List Change) : Type 0 where
  pub within : set.at ≤ length journal
  pub first : HasFirst set (matches set.query (docs journal set.at set.query.collection))

-- the window that a set shows
abbrev pub window_of : Contents → List Row
window_of set = take set.query.take (drop set.query.skip set.rows)

-- ---- the next step

-- The row is the journal's row at a commit above the set's, each commit between the two passes by, and the verdict is the
-- one on the row.
pub record IsNext (set : Contents) (journal : List Change) (row : CommitRow) (verdict : Verdict) : Type 0 where
  pub before : ℕ
  pub change : Change
  pub there : slice_get journal before ≡ Some change
  pub row_is : row ≡ commit_row journal (suc before) change
  pub above : set.at ≤ before
  pub between : ArePassing set.query journal set.at before
  pub verdict_is : verdict ≡ verdict_on set.query row

-- the rows without the old one of an id, where it satisfied, and with a new one, where it is kept
abbrev pub rows_with : Contents → List ℕ → Bool → Option Row → List Row
rows_with set id before new = placed_if (rows_cmp set.query.order) (others before id set.rows) (kept_part set.query.order set.whole set.rows new)

-- the rows after a commit, before any is cut off
abbrev pub rows_after : Contents → CommitRow → Verdict → List Row
rows_after set row verdict = rows_with set row.id verdict.before (new_row row verdict.after)

-- whether too few rows for the window would be kept after a commit
abbrev pub is_short : Contents → CommitRow → Verdict → Bool
is_short set row verdict = not set.whole && nat_lt (length (rows_after set row verdict)) (set.query.skip + set.query.take)

-- ---- what a step tells

-- the positions of the written row among the others, in the old rows and in the new
pub record ArePlaced (rows : List Row) (id : List ℕ) (others : List Row) (new : Option Row) (after : List Row) (places : Places) : Type 0 where
  pub old_row : Option Row
  pub old_id : IfSome old_row (λ row. row.0 ≡ id)
  pub old_put : IsPutAt others places.old old_row rows
  pub new_put : IsPutAt others places.new new after

-- the step is told by these positions
pub record IsToldBy (set : Contents) (row : CommitRow) (verdict : Verdict) (rows : List Row) (step : MatchStep) : Type 0 where
  pub places : Places
  pub are : ArePlaced set.rows row.id (others verdict.before row.id set.rows) (kept_part set.query.order set.whole set.rows (new_row row verdict.after)) (rows_after set row verdict) places
  pub told : step ≡ step_in set.query rows places.old places.new

-- ---- steps taken back

-- the same rows at the same commit, with memory for no fewer
pub record IsSame (before after : Contents) : Type 0 where
  pub query : after.query ≡ before.query
  pub at : after.at ≡ before.at
  pub rows : after.rows ≡ before.rows
  pub whole : after.whole ≡ before.whole
  pub capacity : before.capacity ≤ after.capacity

-- a row was taken out, one put in and one cut off, or not
pub record IsStepRewind (before : Contents) (taken : Option (ℕ × Row)) (put : Option ℕ) (cut : Option Row) (after : Contents) : Type 0 where
  pub without : List Row
  pub new : Option Row
  pub taken_is : IsTaken before.rows taken without
  pub put_is : IsPutAt without put new (after.rows ++ list_of cut)
  pub full : length (after.rows ++ list_of cut) ≤ after.capacity
  pub fits : length before.rows ≤ after.capacity
  pub capacity : before.capacity ≤ after.capacity

-- the rows of before can be made of those of after
abbrev pub IsRewind : Contents → Rewind → Contents → Type 0
IsRewind before (Step taken put cut) after = IsStepRewind before taken put cut after
IsRewind before (Renewal rows) after = (rows.items ≡ before.rows) × (before.capacity ≤ vec_capacity rows)

-- the step from before to after is taken back by this
pub record IsMade (before : Contents) (undo : Undo) (after : Contents) : Type 0 where
  pub at : undo.at ≡ before.at
  pub whole : undo.whole ≡ before.whole
  pub query : after.query ≡ before.query
  pub rows : IsRewind before undo.rows after
