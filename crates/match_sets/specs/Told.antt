-- Internal. How a step tells what it did to the window, from the positions of the written row among the others.
use Rattle.std.specs.Prelude.{ℕ, suc, ◌+◌, ◌-◌, Bool, true, false, not, ◌&&◌, ◌||◌, if◌then◌else◌, nat_le, nat_lt, List, Option, None, Some, slice_get, option_map, option_and_then, is_some}
use Rattle.query_core.specs.declared.query.Query.{Query}
use Rattle.query_core.specs.Window.{Row}
use Rattle.match_sets.specs.declared.steps.Notice.{Notice}
use Rattle.match_sets.specs.declared.steps.Notice.TheVariants.{Nothing, Added, Changed, Removed, Moved}
use Rattle.match_sets.specs.declared.steps.MatchStep.{MatchStep}
use Rattle.match_sets.specs.Windows.{position_of, notice_of}

-- where the k-th of the others is among the rows with the written one, which is `here` or is not among them
abbrev pub shift : Option ℕ → ℕ → ℕ
shift None k = k
shift (Some here) k = if nat_lt k here then k else suc k

-- whether the written row is before the window
abbrev pub is_before : ℕ → Option ℕ → Bool
is_before start None = false
is_before start (Some here) = nat_lt here start

-- whether it is behind the window; a row that is not there is behind all
abbrev pub is_behind : ℕ → Option ℕ → Bool
is_behind end None = true
is_behind end (Some here) = nat_le end here

-- the position in the window
abbrev pub shown_at : ℕ → ℕ → Option ℕ → Option ℕ
shown_at start end None = None
shown_at start end (Some here) = if nat_le start here && nat_lt here end then Some (here - start) else None

-- which of the others is in the window where the written row is here, and not where it is there
abbrev pub slid : ℕ → ℕ → Option ℕ → Option ℕ → Option ℕ
slid start end here there =
    if is_before start here && not (is_before start there) then Some (start - 1) else (if is_behind end here && not (is_behind end there) then Some (end - 1) else None)

-- the id of one of the others, found among the rows with the written one
abbrev pub name_of : List Row → Option ℕ → Option ℕ → Option (List ℕ)
name_of rows here other = option_map (λ row. row.0) (option_and_then (λ k. slice_get rows (shift here k)) other)

-- whether a notice shows a change of the ids
abbrev pub shows_ids : Notice → Bool
shows_ids Nothing = false
shows_ids Added = true
shows_ids Changed = false
shows_ids Removed = true
shows_ids Moved = true

-- whether it shows a change of the objects
abbrev pub shows_objects : Notice → Bool
shows_objects Nothing = false
shows_objects Added = true
shows_objects Changed = true
shows_objects Removed = true
shows_objects Moved = true

-- the step with these ids that slid
abbrev pub step_with : Notice → Option (List ℕ) → Option (List ℕ) → MatchStep
step_with notice slid_in slid_out = record {
  notice = notice;
  slid_in = slid_in;
  slid_out = slid_out;
  objects_changed = shows_objects notice || (is_some slid_in || is_some slid_out);
  ids_changed = shows_ids notice || (is_some slid_in || is_some slid_out);
}

-- The step that took the written row from the old position among the others to the new one. The rows are those with the
-- written one at its new position.
abbrev pub step_of : ℕ → ℕ → List Row → Option ℕ → Option ℕ → MatchStep
step_of start end rows old new = step_with (notice_of (shown_at start end old) (shown_at start end new)) (name_of rows new (slid start end new old)) (name_of rows new (slid start end old new))

-- the same of the window of a query
abbrev pub step_in : Query → List Row → Option ℕ → Option ℕ → MatchStep
step_in q rows old new = step_of q.skip (q.skip + q.take) rows old new

-- the position of the row of an id, where it is asked for
abbrev pub place_where : Bool → List ℕ → List Row → Option ℕ
place_where wanted id rows = if wanted then position_of id rows else None
