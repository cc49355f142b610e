-- Internal. What a change of one document does to the rows that satisfy a query.
use Rattle.std.specs.Prelude.{◌≡◌, ℕ, List, [], ◌∷◌, Bool, true, false, not, ◌&&◌, if◌then◌else◌, Option, None, Some, filter, option_map}
use Rattle.std.specs.Str.{bytes_eq}
use Rattle.std.specs.declared.cmp.Ordering.{Ordering}
use Rattle.q_doc.specs.Tree.{Tree}
use Rattle.query_core.specs.declared.query.Query.{Query}
use Rattle.query_core.specs.declared.query.Verdict.{Verdict}
use Rattle.query_core.specs.Meaning.{satisfies, satisfies_if}
use Rattle.query_core.specs.Window.{Row, placed, rows_cmp}

-- ---- the rows of an id

-- whether a row is that of an id
abbrev pub is_of : List ℕ → Row → Bool
is_of id row = bytes_eq row.0 id

-- the rows of other ids
abbrev pub without : List ℕ → List Row → List Row
without id rows = filter (λ row. not (is_of id row)) rows

-- the list of what is there
abbrev pub list_of : {X : Type 0} → Option X → List X
list_of None = []
list_of (Some x) = x ∷ []

-- From these documents to the others the one of this id has changed, or come, or gone. The others have the new one, if
-- there is one, and of each other id the same.
pub record IsChange (id : List ℕ) (new : Option Row) (docs others : List Row) : Type 0 where
  pub same : (other : List ℕ) → bytes_eq other id ≡ false → filter (is_of other) others ≡ filter (is_of other) docs
  pub own : filter (is_of id) others ≡ list_of new

-- ---- the rows that satisfy, in order

-- an item, if there is one, inserted into a list that is in order
abbrev pub placed_if : {X : Type 0} → (X → X → Ordering) → List X → Option X → List X
placed_if cmp xs None = xs
placed_if cmp xs (Some new) = placed cmp xs new

-- the row, where its document satisfies
abbrev pub satisfying : Query → Option Row → Option Row
satisfying q None = None
satisfying q (Some row) = if satisfies q.filter row.2 then Some row else None

-- the rows that satisfied, after a change: without the old row, and with the new one inserted, if it satisfies
abbrev pub after_change : Query → List ℕ → Option Row → List Row → List Row
after_change q id new rows = placed_if (rows_cmp q.order) (without id rows) (satisfying q new)

-- ---- verdicts

-- whether a document of this collection satisfied the query before a change, and whether it does after it (as the
-- match types of InvaliDB: add, change, remove)
abbrev pub verdict_of : Query → List ℕ → Option Tree → Option Tree → Verdict
verdict_of q collection before after = record {
  before = bytes_eq collection q.collection && satisfies_if q.filter before;
  after = bytes_eq collection q.collection && satisfies_if q.filter after;
}

-- whether it is neither
abbrev pub passes_by : Query → List ℕ → Option Tree → Option Tree → Bool
passes_by q collection before after = not (verdict_of q collection before after).before && not (verdict_of q collection before after).after

-- the document of a row, if there is one
abbrev pub tree_of_row : Option Row → Option Tree
tree_of_row row = option_map (λ r. r.2) row
