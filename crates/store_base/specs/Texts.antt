-- Internal. The bytes of a base. All numbers have the high byte first.
use Rattle.std.specs.Prelude.{ℕ, ◌+◌, List, [], ◌∷◌, ◌++◌, length, Option, Some, None}
use Rattle.std.specs.Int.{w32, w64, to_be_bytes}
use Rattle.std.specs.List.{flat_map}
use Rattle.record_log.specs.Records.{body_of}
use Rattle.store_base.specs.declared.base.BaseHead.{BaseHead}
use Rattle.store_base.specs.declared.base.BaseRow.{BaseRow}
use Rattle.store_base.specs.declared.base.RecordName.{RecordName}
use Rattle.store_base.specs.Bases.{Base}

-- what every base begins with: `QSJ2`
abbrev pub mark : List ℕ
mark = 81 ∷ 83 ∷ 74 ∷ 50 ∷ []

-- two names, each behind its length in one byte; two lengths of 0 where there is no record
abbrev pub tail_text : Option RecordName → List ℕ
tail_text None = 0 ∷ 0 ∷ []
tail_text (Some name) = (length name.collection ∷ name.collection) ++ (length name.id ∷ name.id)

-- the mark, the size of the base, its horizon, its clock and its moment, each number in 8 bytes
abbrev pub start_text : (size horizon clock moment : ℕ) → List ℕ
start_text size horizon clock moment = mark ++ to_be_bytes w64 size ++ to_be_bytes w64 horizon ++ to_be_bytes w64 clock ++ to_be_bytes w64 moment

-- what stands before the rows: that, the tail, and the number of rows in 8 bytes
abbrev pub head_text : (size count : ℕ) → BaseHead → List ℕ
head_text size count head = start_text size head.horizon head.clock head.moment ++ (tail_text head.tail ++ to_be_bytes w64 count)

-- what stands before a row's body: its commit and its clock in 8 bytes each, and the length of the body in 4
abbrev pub row_start : (commit clock size : ℕ) → List ℕ
row_start commit clock size = to_be_bytes w64 commit ++ to_be_bytes w64 clock ++ to_be_bytes w32 size

-- a row, whose body is that of a commit in a log
abbrev pub row_text : BaseRow → List ℕ
row_text row = row_start row.commit row.clock (length (body_of row.change)) ++ body_of row.change

-- the rows in turn
abbrev pub rows_text : List BaseRow → List ℕ
rows_text rows = flat_map row_text rows

-- the number of bytes of a base
abbrev pub text_size : Base → ℕ
text_size base = 44 + length (tail_text base.head.tail) + length (rows_text base.rows)

-- a base
abbrev pub text_of : Base → List ℕ
text_of base = head_text (text_size base) (length base.rows) base.head ++ rows_text base.rows
