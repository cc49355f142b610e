-- Believed. The documents of a collection after the first changes of a journal.
use Rattle.std.specs.Prelude.{◌≡◌, ℕ, zero, suc, Bool, not, if◌then◌else◌, List, [], ◌∷◌, Option, Some, None, slice_get, filter, bytes_eq, option_map}
use Rattle.std.specs.Ordering.{is_lt, nat_cmp}
use Rattle.std.specs.Cmp.Lexicographic.{slice_cmp}
use Rattle.q_doc.specs.Tree.{Tree}
use Rattle.commit_book.specs.declared.change.Change.{Change}

-- the id, the version and the document
abbrev pub Row : Type 0
Row = List ℕ × ℕ × Tree

-- a row put where it belongs among rows in byte order of ids
abbrev pub insert_row : Row → List Row → List Row
insert_row new [] = new ∷ []
insert_row new (row ∷ rows) = if is_lt (slice_cmp nat_cmp new.0 row.0) then new ∷ row ∷ rows else row ∷ insert_row new rows

-- the rows of other ids
abbrev pub without : List ℕ → List Row → List Row
without id rows = filter (λ row. not (bytes_eq row.0 id)) rows

-- a document put under its id, or taken out
abbrev pub put_row : ℕ → List ℕ → Option Tree → List Row → List Row
put_row version id (Some tree) rows = insert_row (id, version, tree) (without id rows)
put_row version id None rows = without id rows

-- the rows of a collection after the change at a commit
abbrev pub docs_after : List ℕ → ℕ → Option Change → List Row → List Row
docs_after collection commit (Some change) rows = if bytes_eq change.collection collection then put_row commit change.id change.document rows else rows
docs_after collection commit None rows = rows

-- the documents of a collection after the first n changes, in byte order of ids
abbrev pub docs : List Change → ℕ → List ℕ → List Row
docs journal zero collection = []
docs journal (suc n) collection = docs_after collection (suc n) (slice_get journal n) (docs journal n collection)

-- what is there, as a list
abbrev pub list_of : {X : Type 0} → Option X → List X
list_of None = []
list_of (Some x) = x ∷ []

-- the row of a document, where there is one
abbrev pub row_of : List ℕ → Option (ℕ × Tree) → Option Row
row_of id found = option_map (λ d. (id, d.0, d.1)) found

-- the row is of this id
abbrev pub is_row_of : List ℕ → Row → Bool
is_row_of id row = bytes_eq row.0 id

-- of each id there is its document alone, or no row
abbrev pub HasDocuments : (List ℕ → Option (ℕ × Tree)) → List Row → Type 0
HasDocuments found rows = (id : List ℕ) → filter (is_row_of id) rows ≡ list_of (row_of id (found id))
