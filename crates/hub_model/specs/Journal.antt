-- Believed. What a key finds in a journal: the list of the accepted changes, the newest last. The n-th change, counted from 1, is commit n.
use Rattle.std.specs.Prelude.{ℕ, ◌==◌, Bool, false, ◌&&◌, true, List, Option, Some, None, bytes_eq}
use Rattle.std.specs.Cmp.Lexicographic.{pointwise}
use Rattle.std.specs.Ordering.{eq_by_cmp}
use Rattle.q_doc.specs.Order.{tree_cmp}
use Rattle.q_doc.specs.Tree.{Tree}
use Rattle.commit_book.specs.declared.change.Change.{Change}
use Rattle.commit_book.specs.Documents.{docs}
use Rattle.commit_book.specs.Journal.{document_at}
use Rattle.query_core.specs.Window.{Row, window}
use Rattle.query_normal.specs.declared.key.KeyShape.{KeyShape}
use Rattle.query_normal.specs.declared.key.KeyShape.TheVariants.{Record, Query}
use Rattle.result_kinds.specs.Results.{QueryResult, objects, ids, result_of}

-- What a key finds: nothing, a record's version and document, or the result of a query.
pub data Finding : Type 0 where
  absent : Finding
  present : ℕ → Tree → Finding
  queried : QueryResult → Finding

-- the finding of a document
abbrev pub document_finding : Option (ℕ × Tree) → Finding
document_finding None = absent
document_finding (Some found) = present found.0 found.1

-- what a key finds among the first n changes: a record its document, and a query the rows of its window over the documents that its collection has there, or their ids
abbrev pub result_at : KeyShape → List Change → ℕ → Finding
result_at (Record collection id) journal n = document_finding (document_at journal n collection id)
result_at (Query kind normal) journal n = queried (result_of kind (window normal (docs journal n normal.collection)))

-- whether two rows are equal
abbrev pub same_row : Row → Row → Bool
same_row a b = bytes_eq a.0 b.0 && (a.1 == b.1 && eq_by_cmp tree_cmp a.2 b.2)

-- whether two results of queries are equal: they have the same rows, or the same ids, in the same order
abbrev pub same_queried : QueryResult → QueryResult → Bool
same_queried (objects rows) (objects others) = pointwise same_row rows others
same_queried (ids names) (ids others) = pointwise bytes_eq names others
same_queried a b = false

-- whether two results are equal, compared as values
abbrev pub same_finding : Finding → Finding → Bool
same_finding absent absent = true
same_finding (present version tree) (present other_version other_tree) = version == other_version && eq_by_cmp tree_cmp tree other_tree
same_finding (queried a) (queried b) = same_queried a b
same_finding a b = false
