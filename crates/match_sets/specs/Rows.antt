-- Internal. The rows that a match set keeps, and one commit's change of them.
use Rattle.std.specs.Prelude.{◌≡◌, ◌⊎◌, ◌≤◌, ℕ, ◌||◌, Bool, true, false, not, if◌then◌else◌, List, [], ◌∷◌, Option, None, Some, option_map, length, slice_get, filter}
use Rattle.std.specs.List.{insert, remove}
use Rattle.std.specs.Ordering.{is_lt}
use Rattle.q_doc.specs.Tree.{Tree}
use Rattle.commit_book.specs.declared.change.CommitRow.{CommitRow}
use Rattle.query_core.specs.Changes.{is_of, without}
use Rattle.query_core.specs.Window.{Row, Order, rows_cmp, in_order}

-- the row that a commit puts, where its document is one that the query asks for
abbrev pub new_row : CommitRow → Bool → Option Row
new_row row false = None
new_row row true = option_map (λ document. (row.id, row.commit, document)) row.after

-- the rows without the old one of a commit, where it satisfied
abbrev pub others : Bool → List ℕ → List Row → List Row
others true id rows = without id rows
others false id rows = rows

-- the last row
abbrev pub last_of : List Row → Option Row
last_of [] = None
last_of (row ∷ []) = Some row
last_of (row ∷ next ∷ rows) = last_of (next ∷ rows)

-- whether a row is not behind the last one
abbrev pub reaches : Order → Option Row → Row → Bool
reaches order None new = false
reaches order (Some last) new = not (is_lt (rows_cmp order last new))

-- the new row, where it is kept: always among all rows, else where it is not behind the last row
abbrev pub kept_part : Order → Bool → List Row → Option Row → Option Row
kept_part order whole rows None = None
kept_part order whole rows (Some new) = if whole || reaches order (last_of rows) new then Some new else None

-- no id is there twice
abbrev pub AreApart : List Row → Type 0
AreApart rows = (id : List ℕ) → length (filter (is_of id) rows) ≤ 1

-- ---- for private clauses

-- one, or none
abbrev pub count_of : Bool → ℕ
count_of there = if there then 1 else 0

-- whether there is a row, and of this id
abbrev pub is_of_some : List ℕ → Option Row → Bool
is_of_some id None = false
is_of_some id (Some row) = is_of id row

-- a row was taken out, or none
abbrev pub IsTaken : List Row → Option (ℕ × Row) → List Row → Type 0
IsTaken before None after = after ≡ before
IsTaken before (Some taken) after = (slice_get before taken.0 ≡ Some taken.1) × (after ≡ remove before taken.0)

-- a row was put in at a position, or there was none
abbrev pub IsPutAt : List Row → Option ℕ → Option Row → List Row → Type 0
IsPutAt before None None after = after ≡ before
IsPutAt before (Some position) (Some row) after = (position ≤ length before) × (after ≡ insert before position row)
IsPutAt before None (Some row) after = ⊥
IsPutAt before (Some position) None after = ⊥

-- the rows without the one that was put in
abbrev pub un_put : Option ℕ → List Row → List Row
un_put None rows = rows
un_put (Some position) rows = remove rows position

-- the rows with the one that was taken out
abbrev pub un_taken : Option (ℕ × Row) → List Row → List Row
un_taken None rows = rows
un_taken (Some taken) rows = insert rows taken.0 taken.1

-- of this id there is none, or the one of this document
abbrev pub HasOld : List ℕ → Option Tree → List Row → Type 0
HasOld id document rows = (filter (is_of id) rows ≡ []) ⊎ ((tree : Tree) × (document ≡ Some tree) × ((version : ℕ) × (filter (is_of id) rows ≡ (id, version, tree) ∷ [])))

-- the rows are in order, and where the commit's old document satisfied they have it or none of its id
pub record IsReady (order : Order) (row : CommitRow) (before : Bool) (rows : List Row) : Type 0 where
  pub in_order : in_order (rows_cmp order) rows ≡ rows
  pub old : before ≡ true → HasOld row.id row.before rows
