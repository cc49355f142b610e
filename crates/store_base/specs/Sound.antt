-- Internal. Which heads and rows are those of a base.
use Rattle.std.specs.Prelude.{◌≡◌, ℕ, ◌+◌, ◌^◌, ◌<◌, ◌≤◌, true, List, [], ◌∷◌, Option, Some, None, is_some}
use Rattle.q_base.specs.Name.{IsName}
use Rattle.record_log.specs.Puts.{CanPut}
use Rattle.record_log.specs.Records.{greatest_clock}
use Rattle.store_base.specs.declared.base.BaseHead.{BaseHead}
use Rattle.store_base.specs.declared.base.BaseRow.{BaseRow}
use Rattle.store_base.specs.declared.base.RecordName.{RecordName}
use Rattle.store_base.specs.Bases.{Base}

-- A row may stand behind a commit and up to a horizon: it puts a document that is read again.
pub record CanStand (last horizon : ℕ) (row : BaseRow) : Type 0 where
  pub rises : last < row.commit
  pub within : row.commit ≤ horizon
  pub clock : row.clock ≤ greatest_clock
  pub change : CanPut row.change
  pub puts : is_some row.change.document ≡ true

-- the rows may stand behind a commit, each behind the one before it
abbrev pub Stand : (last horizon : ℕ) → List BaseRow → Type 0
Stand last horizon [] = Unit {0}
Stand last horizon (row ∷ rows) = CanStand last horizon row × Stand row.commit horizon rows

-- the names of a tail are names
abbrev pub IsTail : Option RecordName → Type 0
IsTail None = Unit {0}
IsTail (Some name) = IsName name.collection × IsName name.id

-- A head's numbers have their bytes, and its tail has names.
pub record IsHead (head : BaseHead) : Type 0 where
  pub horizon : head.horizon + 1 < 2 ^ 64
  pub clock : head.clock ≤ greatest_clock
  pub moment : head.moment ≤ greatest_clock
  pub tail : IsTail head.tail

-- behind the last row there is nothing up to the horizon, or the tail to fill it with
abbrev pub Ends : (last : ℕ) → BaseHead → List BaseRow → Type 0
Ends last head (row ∷ rows) = Ends row.commit head rows
Ends last head [] = head.tail ≡ None → last ≡ head.horizon

-- A base that is written and read.
pub record IsBase (base : Base) : Type 0 where
  pub head : IsHead base.head
  pub rows : Stand 0 base.head.horizon base.rows
  pub ends : Ends 0 base.head base.rows
