-- Internal. What one change of a document does to the window of a query, said of the two windows alone.
use Rattle.std.specs.Prelude.{◌≡◌, ◌≢◌, ℕ, suc, ◌==◌, List, [], ◌∷◌, Bool, false, not, ◌&&◌, if◌then◌else◌, Option, None, Some, option_map}
use Rattle.std.specs.Bool.{Decides}
use Rattle.std.specs.List.{list_any}
use Rattle.std.specs.Str.{bytes_eq}
use Rattle.query_core.specs.Changes.{is_of}
use Rattle.query_core.specs.declared.query.Kind.{Kind}
use Rattle.query_core.specs.declared.query.Kind.TheVariants.{Objects, Ids}
use Rattle.query_core.specs.Window.{Row}
use Rattle.result_kinds.specs.Results.{ids_of, result_of}
use Rattle.result_kinds.specs.Same.{same_result}
use Rattle.match_sets.specs.declared.steps.Notice.{Notice}
use Rattle.match_sets.specs.declared.steps.Notice.TheVariants.{Nothing, Added, Changed, Removed, Moved}
use Rattle.match_sets.specs.declared.steps.MatchStep.{MatchStep}

-- the position of the row of an id, counted from 0
abbrev pub position_of : List ℕ → List Row → Option ℕ
position_of id [] = None
position_of id (row ∷ rows) = if is_of id row then Some 0 else option_map suc (position_of id rows)

-- what happened to a document that had one position and has another, where none is outside the window
abbrev pub notice_of : Option ℕ → Option ℕ → Notice
notice_of None None = Nothing
notice_of None (Some new) = Added
notice_of (Some old) None = Removed
notice_of (Some old) (Some new) = if old == new then Changed else Moved

-- whether a list has a row of this id
abbrev pub has_id : List ℕ → List Row → Bool
has_id id rows = list_any (is_of id) rows

-- whether an id other than the written one is in the first window and not in the second
abbrev pub has_slid : List ℕ → List Row → List Row → List ℕ → Bool
has_slid written here there id = not (bytes_eq id written) && (has_id id here && not (has_id id there))

-- whether the name, if there is one, is this id
abbrev pub is_name : List ℕ → Option (List ℕ) → Bool
is_name id None = false
is_name id (Some name) = bytes_eq id name

-- The step says of the two windows what happened to the written document, which other ids entered and left (so at most
-- one each), and whether the windows differ.
pub record IsStepBetween (written : List ℕ) (old new : List Row) (step : MatchStep) : Type 0 where
  pub notice : step.notice ≡ notice_of (position_of written old) (position_of written new)
  pub slid_in : (id : List ℕ) → is_name id step.slid_in ≡ has_slid written new old id
  pub slid_out : (id : List ℕ) → is_name id step.slid_out ≡ has_slid written old new id
  pub objects_changed : Decides step.objects_changed (old ≢ new)
  pub ids_changed : Decides step.ids_changed (ids_of old ≢ ids_of new)

-- whether the step says that the results of a kind differ
abbrev pub has_changed : Kind → MatchStep → Bool
has_changed Objects step = step.objects_changed
has_changed Ids step = step.ids_changed

-- the step says so exactly where the results of this kind differ, told by versions or by ids, or compared as values
pub record ShowsChange (kind : Kind) (old new : List Row) (step : MatchStep) : Type 0 where
  pub same : has_changed kind step ≡ not (same_result kind old new)
  pub results : Decides (has_changed kind step) (result_of kind old ≢ result_of kind new)

-- the step that says that nothing happened
abbrev pub quiet : MatchStep
quiet = record { notice = Nothing; slid_in = None; slid_out = None; objects_changed = false; ids_changed = false }
