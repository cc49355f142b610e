-- Internal. The pieces in which the texts of results are given.
use Rattle.std.specs.Prelude.{ℕ, List, ◌++◌, codes, decimal}
use Rattle.result_kinds.specs.declared.rows.PrintedRow.{PrintedRow}

-- a row as an object, behind the name of its document
abbrev pub object_rest : PrintedRow → List ℕ
object_rest row = row.text ++ (codes ",\"id\":\"" ++ (row.id ++ (codes "\",\"version\":" ++ decimal row.version ++ codes "}")))
