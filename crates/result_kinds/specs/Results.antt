-- Believed. The result of a query, and its text: JSON (RFC 8259) without blanks.
use Rattle.std.specs.Prelude.{ℕ, List, ◌++◌, codes, decimal, map}
use Rattle.std.specs.List.{join_by}
use Rattle.q_doc.specs.Printed.{printed}
use Rattle.query_core.specs.declared.query.Kind.{Kind}
use Rattle.query_core.specs.declared.query.Kind.TheVariants.{Objects, Ids}
use Rattle.query_core.specs.Window.{Row}
use Rattle.result_kinds.specs.declared.rows.PrintedRow.{PrintedRow}

-- the result of a query: the rows of its window, or their ids alone
pub data QueryResult : Type 0 where
  objects : List Row → QueryResult
  ids : List (List ℕ) → QueryResult

-- the ids of rows
abbrev pub ids_of : List Row → List (List ℕ)
ids_of rows = map (λ row. row.0) rows

-- what a kind shows of the rows of a window
abbrev pub result_of : Kind → List Row → QueryResult
result_of Objects rows = objects rows
result_of Ids rows = ids (ids_of rows)

-- ---- its text

-- an id in quotes; no byte of a name is escaped
abbrev pub id_text : List ℕ → List ℕ
id_text id = codes "\"" ++ id ++ codes "\""

-- a row as an object: its printed document, its id and its version
abbrev pub object_text : PrintedRow → List ℕ
object_text row = codes "{\"doc\":" ++ row.text ++ codes ",\"id\":\"" ++ row.id ++ codes "\",\"version\":" ++ decimal row.version ++ codes "}"

-- the list of the objects
abbrev pub objects_text : List PrintedRow → List ℕ
objects_text rows = codes "[" ++ join_by object_text (codes ",") rows ++ codes "]"

-- the list of the ids
abbrev pub ids_text : List (List ℕ) → List ℕ
ids_text names = codes "[" ++ join_by id_text (codes ",") names ++ codes "]"

-- a row with its document printed
abbrev pub printed_row : Row → PrintedRow
printed_row row = record { id = row.0; version = row.1; text = printed row.2 }

-- the text of a result
abbrev pub text_of_result : QueryResult → List ℕ
text_of_result (objects rows) = objects_text (map printed_row rows)
text_of_result (ids names) = ids_text names
