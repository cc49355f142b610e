-- Internal. The base in front of a log: what lives at a horizon, in place of the first commits.
use Rattle.std.specs.Prelude.{ℕ, suc, ◌-◌, Bool, ◌&&◌, not, if◌then◌else◌, List, [], ◌∷◌, ◌++◌, map, replicate, take, Option, Some, None, is_some}
use Rattle.std.specs.List.{list_any}
use Rattle.commit_book.specs.declared.change.Change.{Change}
use Rattle.commit_book.specs.Journal.{is_of}
use Rattle.store_base.specs.declared.base.BaseHead.{BaseHead}
use Rattle.store_base.specs.declared.base.BaseRow.{BaseRow}
use Rattle.store_base.specs.declared.base.DatedChange.{DatedChange}
use Rattle.store_base.specs.declared.base.RecordName.{RecordName}

-- What stands before the rows, and the rows, rising by their commits.
pub record Base : Type 0 where
  pub head : BaseHead
  pub rows : List BaseRow

-- the changes without their clocks
abbrev pub changes_of : List DatedChange → List Change
changes_of commits = map (λ c. c.change) commits

-- the record of a change
abbrev pub name_of : Change → RecordName
name_of change = record { collection = change.collection; id = change.id }

-- ---- the base of a journal

-- the change puts a document, and no later one is of its record
abbrev pub lives : Change → List DatedChange → Bool
lives change later = is_some change.document && not (list_any (is_of change.collection change.id) (changes_of later))

-- those commits, numbered from a first one on, that put a document and are the last of their record
abbrev pub rows_from : ℕ → List DatedChange → List BaseRow
rows_from commit [] = []
rows_from commit (c ∷ later) =
    if lives c.change later then record { commit = commit; clock = c.clock; change = c.change } ∷ rows_from (suc commit) later else rows_from (suc commit) later

-- the clock of the last commit; 0 where there is none
abbrev pub last_clock : List DatedChange → ℕ
last_clock [] = 0
last_clock (c ∷ []) = c.clock
last_clock (c ∷ d ∷ later) = last_clock (d ∷ later)

-- the record that the last commit deleted, where it did
abbrev pub last_deleted : List DatedChange → Option RecordName
last_deleted [] = None
last_deleted (c ∷ []) = if is_some c.change.document then None else Some (name_of c.change)
last_deleted (c ∷ d ∷ later) = last_deleted (d ∷ later)

-- the base of all these commits
abbrev pub base_from : List DatedChange → (horizon moment : ℕ) → Base
base_from commits horizon moment = record {
  head = record { horizon = horizon; clock = last_clock commits; moment = moment; tail = last_deleted commits };
  rows = rows_from 1 commits;
}

-- the base of the first commits of a journal, at a kept moment
abbrev pub base_of : List DatedChange → (horizon moment : ℕ) → Base
base_of journal horizon moment = base_from (take horizon journal) horizon moment

-- ---- the commits that a base stands for

-- a deletion of a record
abbrev pub deletion : ℕ → RecordName → DatedChange
deletion clock name = record { clock = clock; change = record { collection = name.collection; id = name.id; document = None } }

-- so many deletions of a record, where there is one
abbrev pub deletions : (clock count : ℕ) → Option RecordName → List DatedChange
deletions clock count None = []
deletions clock count (Some name) = replicate count (deletion clock name)

-- a row at its commit
abbrev pub dated : BaseRow → DatedChange
dated row = record { clock = row.clock; change = row.change }

-- the commits from the next one on: in front of each row deletions of its own record, behind the last those of the tail
abbrev pub expanded_from : BaseHead → ℕ → List BaseRow → List DatedChange
expanded_from head next [] = deletions head.clock (suc head.horizon - next) head.tail
expanded_from head next (row ∷ rows) = deletions row.clock (row.commit - next) (Some (name_of row.change)) ++ dated row ∷ expanded_from head (suc row.commit) rows

-- as many commits as the horizon says, in which the rows stand at their own places
abbrev pub expanded : Base → List DatedChange
expanded base = expanded_from base.head 1 base.rows
