-- Internal. The rows that are left of a base which is being read.
use Rattle.std.specs.Prelude.{◌≡◌, ℕ, zero, suc, ◌-◌, List, [], ◌∷◌}
use Rattle.std.specs.declared.option.Option.{Option}
use Rattle.std.specs.declared.option.Option.TheVariants.{None, Some}
use Rattle.store_base.specs.declared.base.BaseRow.{BaseRow}
use Rattle.store_base.specs.Readings.{ReaderView}
use Rattle.store_base.specs.Rows.{IsRow}

-- bytes begin with so many rows, each behind the one before it, and then have these
abbrev pub RowsIn : (count last horizon : ℕ) → List ℕ → List BaseRow → List ℕ → Type 0
RowsIn zero last horizon rest [] behind = rest ≡ behind
RowsIn zero last horizon rest (row ∷ rows) behind = ⊥
RowsIn (suc count) last horizon rest [] behind = ⊥
RowsIn (suc count) last horizon rest (row ∷ rows) behind = (more : List ℕ) × IsRow last horizon rest row more × RowsIn count row.commit horizon more rows behind

-- these rows are left where this one waits and these bytes are next
abbrev pub Remains : Option BaseRow → ReaderView → List ℕ → List BaseRow → List ℕ → Type 0
Remains None v rest rows behind = RowsIn v.left (v.next - 1) v.head.horizon rest rows behind
Remains (Some row) v rest rows behind = (later : List BaseRow) × (rows ≡ row ∷ later) × RowsIn v.left row.commit v.head.horizon rest later behind
