-- Internal. What a table of floors holds of a session's past. Each mark has one row at most, in its set.
use Rattle.std.specs.Prelude.{◌≡◌, ◌==◌, ℕ, zero, suc, ◌+◌, ◌*◌, ◌/◌, ◌%◌, ◌<◌, ◌≤◌, ◌⊎◌, true, false, if◌then◌else◌, List, ◌∷◌, min, max, filter, slice_set, get_or, length}
use Rattle.std.specs.List.{list_any}
use Rattle.flat_snapshot.specs.declared.sight.KeyMark.{KeyMark}
use Rattle.client_core.specs.declared.floors.FloorRow.{FloorRow}
use Rattle.client_core.specs.declared.floors.Floors.{Floors}
use Rattle.client_core.specs.declared.level.Level.{Level}
use Rattle.client_core.specs.declared.level.Level.TheVariants as level
use Rattle.client_core.specs.Floor.{Event, writes_of, reads_of, keys_of, greatest, all_commits, commits_of, is_listed, distinct, same_mark}

-- a row that is not taken
abbrev pub blank : FloorRow
blank = record { mark = record { first = 0; second = 0 }; commit = 0; listed_at = 0; is_taken = false }

-- the row at an index
abbrev pub row_at : List FloorRow → ℕ → FloorRow
row_at rows i = get_or rows i blank

-- two rows of one mark as one
abbrev pub joined : FloorRow → FloorRow → FloorRow
joined old row = record {
  mark = row.mark;
  commit = max old.commit row.commit;
  listed_at = max old.listed_at row.listed_at;
  is_taken = true;
}

-- the floor of a key whose row holds this commit
abbrev pub floor_from : Floors → Level → ℕ → ℕ
floor_from floors level.Session held = max floors.writes (max floors.common held)
floor_from floors level.Causal held = max floors.writes floors.reads
floor_from floors level.Strong held = max floors.writes floors.reads

-- row i is taken by a mark
pub record IsRowOf (rows : List FloorRow) (mark : KeyMark) (i : ℕ) : Type 0 where
  pub within : i < length rows
  pub taken : (row_at rows i).is_taken ≡ true
  pub mark_is : (row_at rows i).mark ≡ mark

-- ---- sets

-- the number of rows of a set, where there are as many
abbrev pub ways : ℕ
ways = 8

-- the number of rows of each set: as many, or all rows where there are fewer
abbrev pub set_size : ℕ → ℕ
set_size rows = min ways rows

-- the number of sets
abbrev pub set_count : ℕ → ℕ
set_count rows = max 1 (rows / ways)

-- the number of a mark's set
abbrev pub set_of : ℕ → KeyMark → ℕ
set_of rows mark = mark.first % set_count rows

-- row i is one of a set
pub record IsInSet (rows s i : ℕ) : Type 0 where
  pub begins : ways * s ≤ i
  pub ends : i < ways * s + set_size rows

-- row i is one of a mark's set
abbrev pub IsHome : List FloorRow → KeyMark → ℕ → Type 0
IsHome rows mark i = IsInSet (length rows) (set_of (length rows) mark) i

-- no row of a mark's set is the mark's
abbrev pub IsAbsent : List FloorRow → KeyMark → Type 0
IsAbsent rows mark = (i : ℕ) → IsHome rows mark i → IsRowOf rows mark i → ⊥

-- a row of a mark's set is not taken, or is the mark's
abbrev pub HasSpace : List FloorRow → KeyMark → Type 0
HasSpace rows mark = (i : ℕ) × (IsHome rows mark i × (((row_at rows i).is_taken ≡ false) ⊎ IsRowOf rows mark i))

-- the number of taken rows among some from row i on
abbrev pub taken_from : List FloorRow → ℕ → ℕ → ℕ
taken_from rows i zero = 0
taken_from rows i (suc k) = (if (row_at rows i).is_taken then 1 else 0) + taken_from rows (suc i) k

-- the number of different marks of a past in a set
abbrev pub crowd : ℕ → ℕ → List (Event KeyMark) → ℕ
crowd rows s past = distinct same_mark (filter (λ mark. set_of rows mark == s) (keys_of past))

-- each set has room for the marks of a past
abbrev pub HasRoomFor : ℕ → List (Event KeyMark) → Type 0
HasRoomFor rows past = (s : ℕ) → s < set_count rows → crowd rows s past ≤ set_size rows

-- ---- what is held

-- the commit of a mark's row, and 0 where it has none
abbrev pub HoldsCommit : List FloorRow → KeyMark → ℕ → Type 0
HoldsCommit rows mark commit = (IsAbsent rows mark × (commit ≡ 0)) ⊎ ((i : ℕ) × (IsRowOf rows mark i × (commit ≡ (row_at rows i).commit)))

-- a commit is covered by the common floor or by the mark's row
abbrev pub IsCovered : List FloorRow → ℕ → KeyMark → ℕ → Type 0
IsCovered rows common mark commit = (commit ≤ common) ⊎ ((i : ℕ) × (IsRowOf rows mark i × (commit ≤ (row_at rows i).commit)))

-- what is so while no row was dropped
pub record KeepsAll (floors : Floors) (rows : List FloorRow) (past : List (Event KeyMark)) : Type 0 where
  pub none : floors.common ≡ 0
  pub listed : (mark : KeyMark) → is_listed same_mark past mark ≡ true →
      (i : ℕ) × (IsRowOf rows mark i × ((row_at rows i).listed_at ≡ floors.pages))
  pub kept : (mark : KeyMark) → list_any (same_mark mark) (keys_of past) ≡ true → (i : ℕ) × IsRowOf rows mark i
  pub counted : (s : ℕ) → s < set_count (length rows) →
      taken_from rows (ways * s) (set_size (length rows)) ≡ crowd (length rows) s past

-- the numbers and the rows are those of a past
pub record HasPast (floors : Floors) (rows : List FloorRow) (past : List (Event KeyMark)) : Type 0 where
  pub one : (mark : KeyMark) (i j : ℕ) → IsRowOf rows mark i → IsRowOf rows mark j → i ≡ j
  pub home : (mark : KeyMark) (i : ℕ) → IsRowOf rows mark i → IsHome rows mark i
  pub known : (mark : KeyMark) (i : ℕ) → IsRowOf rows mark i → list_any (same_mark mark) (keys_of past) ≡ true
  pub written : floors.writes ≡ greatest (writes_of past)
  pub was_read : floors.reads ≡ greatest (all_commits (reads_of past))
  pub common : floors.common ≤ greatest (all_commits (reads_of past))
  pub covered : (mark : KeyMark) → IsCovered rows floors.common mark (greatest (commits_of same_mark mark (reads_of past)))
  pub sound : (mark : KeyMark) (i : ℕ) → IsRowOf rows mark i →
      (row_at rows i).commit ≤ greatest (commits_of same_mark mark (reads_of past))
  pub some_pages : 0 < floors.pages
  pub old_pages : (mark : KeyMark) (i : ℕ) → IsRowOf rows mark i → (row_at rows i).listed_at ≤ floors.pages
  pub listings : (mark : KeyMark) (i : ℕ) → IsRowOf rows mark i → (row_at rows i).listed_at ≡ floors.pages →
      is_listed same_mark past mark ≡ true
  pub keeps : floors.has_dropped ≡ false → KeepsAll floors rows past
  pub fits : HasRoomFor (length rows) past → floors.has_dropped ≡ false

-- what a past gains by what a row says of its mark
pub record Adds (past more : List (Event KeyMark)) (row : FloorRow) (pages : ℕ) : Type 0 where
  pub writes : writes_of more ≡ writes_of past
  pub keys : keys_of more ≡ row.mark ∷ keys_of past
  pub all : greatest (all_commits (reads_of more)) ≡ max row.commit (greatest (all_commits (reads_of past)))
  pub own : greatest (commits_of same_mark row.mark (reads_of more)) ≡ max row.commit (greatest (commits_of same_mark row.mark (reads_of past)))
  pub others : (x : KeyMark) → same_mark x row.mark ≡ false →
      greatest (commits_of same_mark x (reads_of more)) ≡ greatest (commits_of same_mark x (reads_of past))
  pub listed_more : (x : KeyMark) → is_listed same_mark past x ≡ true → is_listed same_mark more x ≡ true
  pub listed_own : row.listed_at ≡ pages → is_listed same_mark more row.mark ≡ true
  pub listed_less : (x : KeyMark) → is_listed same_mark more x ≡ true →
      (is_listed same_mark past x ≡ true) ⊎ ((x ≡ row.mark) × (row.listed_at ≡ pages))

-- the numbers, but for the common floor and whether a row was given away
pub record Numbers (f g : Floors) (row : FloorRow) : Type 0 where
  pub writes : g.writes ≡ f.writes
  pub reads : g.reads ≡ max f.reads row.commit
  pub pages : g.pages ≡ f.pages

-- what becomes of the row that was there: a taken one raises the common floor to its commit
pub record IsLeft (f g : Floors) (old : FloorRow) : Type 0 where
  pub taken : old.is_taken ≡ true → (g.common ≡ max f.common old.commit) × (g.has_dropped ≡ true)
  pub free : old.is_taken ≡ false → (g.common ≡ f.common) × (g.has_dropped ≡ f.has_dropped)

-- row i of a mark's set is not taken, or all rows of the set are and it has the least commit of them
pub record IsChoice (rows : List FloorRow) (mark : KeyMark) (i : ℕ) : Type 0 where
  pub home : IsHome rows mark i
  pub least : ((row_at rows i).is_taken ≡ false)
      ⊎ ((j : ℕ) → IsHome rows mark j → ((row_at rows j).is_taken ≡ true) × ((row_at rows i).commit ≤ (row_at rows j).commit))

-- row i was given to a mark, and its earlier mark is covered by the common floor
pub record IsGivenAt (f g : Floors) (rows given : List FloorRow) (row : FloorRow) (i : ℕ) : Type 0 where
  pub choice : IsChoice rows row.mark i
  pub written : given ≡ slice_set rows i row
  pub left : IsLeft f g (row_at rows i)

-- there are no rows, and the mark is covered by the common floor
pub record IsBare (f g : Floors) (rows given : List FloorRow) (row : FloorRow) : Type 0 where
  pub empty : length rows ≡ 0
  pub same : given ≡ rows
  pub common : g.common ≡ max f.common row.commit
  pub dropped : g.has_dropped ≡ true

-- a mark without a row was given one, where there are rows
pub record IsGiven (f g : Floors) (rows given : List FloorRow) (row : FloorRow) : Type 0 where
  pub numbers : Numbers f g row
  pub place : IsBare f g rows given row ⊎ ((i : ℕ) × IsGivenAt f g rows given row i)

-- a row that is whitelisted under no page
abbrev pub unlisted : FloorRow → FloorRow
unlisted row = record row { listed_at = 0 }
