-- Internal. What reading a base gives, commit by commit.
use Rattle.std.specs.Prelude.{◌≡◌, ◌≢◌, ◌⊎◌, ℕ, suc, ◌+◌, ◌-◌, ◌^◌, ◌<◌, ◌≤◌, List, ◌++◌, Result, Ok, Err}
use Rattle.std.specs.declared.option.Option.{Option}
use Rattle.std.specs.declared.option.Option.TheVariants.{None, Some}
use Rattle.disks.specs.Histories.{History}
use Rattle.store_base.specs.declared.base.BaseHead.{BaseHead}
use Rattle.store_base.specs.declared.base.BaseRow.{BaseRow}
use Rattle.store_base.specs.declared.base.DatedChange.{DatedChange}
use Rattle.store_base.specs.declared.base.RecordName.{RecordName}
use Rattle.store_base.specs.declared.refusal.BaseRefusal.{BaseRefusal}
use Rattle.store_base.specs.declared.refusal.BaseRefusal.TheVariants.{NoBase, NoTail, BadSize, Memory}
use Rattle.store_base.specs.Bases.{name_of, dated, deletion}
use Rattle.store_base.specs.Heads.{HasMark, HasNoHead}
use Rattle.store_base.specs.Rows.{IsRow, HasNoRow}
use Rattle.store_base.specs.Sound.{IsHead}
use Rattle.store_base.specs.Texts.{head_text}
use Rattle.store_base.specs.Windows.{Shows}

-- What contracts see of a base that is being read: what its disk shows, the place of the next byte, the size and the head that were read, the rows that
-- are left to read, the next commit, and the row that waits for its commit.
pub record ReaderView : Type 0 where
  pub history : Option History
  pub faults : ℕ
  pub place : ℕ
  pub size : ℕ
  pub head : BaseHead
  pub left : ℕ
  pub next : ℕ
  pub waiting : Option BaseRow

-- a row that waits is at the next commit or behind it, and not above the horizon
abbrev pub Waits : (horizon next : ℕ) → Option BaseRow → Type 0
Waits horizon next None = Unit {0}
Waits horizon next (Some row) = (next ≤ row.commit) × (row.commit ≤ horizon)

-- The next commit is at most the one behind the horizon.
pub record IsReader (v : ReaderView) : Type 0 where
  pub some : 1 ≤ v.next
  pub within : v.next ≤ v.head.horizon + 1
  pub horizon : v.head.horizon + 1 < 2 ^ 64
  pub waits : Waits v.head.horizon v.next v.waiting

-- nothing but the commit and the row that waits changes
pub record IsSameBase (old new : ReaderView) : Type 0 where
  pub history : new.history ≡ old.history
  pub size : new.size ≡ old.size
  pub head : new.head ≡ old.head

-- a row is given at its own commit, and before it a deletion of its record
abbrev pub GivesRow : (next : ℕ) → BaseRow → DatedChange → Option BaseRow → Type 0
GivesRow next row c waiting = ((row.commit ≡ next) × (c ≡ dated row) × (waiting ≡ None)) ⊎ ((next < row.commit) × (c ≡ deletion row.clock (name_of row.change)) × (waiting ≡ Some row))

-- where no row waits, up to the horizon a deletion of the tail is given
abbrev pub GivesTail : ReaderView → DatedChange → Option BaseRow → Type 0
GivesTail old c waiting = (name : RecordName) × (old.head.tail ≡ Some name) × (old.next ≤ old.head.horizon) × (c ≡ deletion old.head.clock name) × (waiting ≡ None)

-- what is given where this row comes; nothing for want of memory
abbrev pub GivesOfRow : (old new : ReaderView) → BaseRow → Result (Option DatedChange) BaseRefusal → Type 0
GivesOfRow old new row (Ok (Some c)) = GivesRow old.next row c new.waiting × (new.next ≡ suc old.next)
GivesOfRow old new row (Ok None) = ⊥
GivesOfRow old new row (Err refusal) = refusal ≡ Memory

-- what is given, by the row that waits
abbrev pub GivesBy : Option BaseRow → ReaderView → DatedChange → Option BaseRow → Type 0
GivesBy None old c waiting = GivesTail old c waiting
GivesBy (Some row) old c waiting = GivesRow old.next row c waiting

-- why nothing is given: no row waits, and there is no tail up to the horizon, or the base ends elsewhere than its size says
abbrev pub GivesNone : ReaderView → BaseRefusal → Type 0
GivesNone old (NoTail bad) = (bad ≡ old.place) × (old.waiting ≡ None) × (old.head.tail ≡ None) × (old.next ≤ old.head.horizon)
GivesNone old (BadSize bad) = (bad ≡ old.place) × (old.waiting ≡ None) × (old.head.horizon < old.next) × (old.place ≢ old.size)
GivesNone old Memory = Unit {0}
GivesNone old other = ⊥

-- the next commit where no row is to be read before it; none behind the horizon
abbrev pub Gives : (old new : ReaderView) → Result (Option DatedChange) BaseRefusal → Type 0
Gives old new (Ok (Some c)) = GivesBy old.waiting old c new.waiting × (new.next ≡ suc old.next)
Gives old new (Ok None) = (old.waiting ≡ None) × (new.waiting ≡ None) × (old.head.horizon < old.next) × (old.place ≡ old.size)
Gives old new (Err refusal) = GivesNone old refusal

-- the next commit where no row waits
abbrev pub GivesOfTail : (old new : ReaderView) → Result (Option DatedChange) BaseRefusal → Type 0
GivesOfTail old new (Ok (Some c)) = GivesTail old c new.waiting × (new.next ≡ suc old.next)
GivesOfTail old new (Ok None) = (new.waiting ≡ None) × (old.head.horizon < old.next) × (old.place ≡ old.size)
GivesOfTail old new (Err refusal) = GivesNone old refusal

-- no row waits, and there are rows to read
abbrev pub IsToRead : ReaderView → Type 0
IsToRead v = (v.waiting ≡ None) × (0 < v.left)

-- a row was read, waits, and what is behind it is next
abbrev pub HasRead : (old mid : ReaderView) → List ℕ → BaseRow → List ℕ → Type 0
HasRead old mid rest row more = IsRow (old.next - 1) old.head.horizon rest row more × (mid.waiting ≡ Some row) × (suc mid.left ≡ old.left) × (mid.next ≡ old.next) × Shows mid.history mid.place more

-- the next commit: where a row is to be read it is read, and else nothing
abbrev pub FindsNext : (old new : ReaderView) → List ℕ → Result (Option DatedChange) BaseRefusal → Type 0
FindsNext old new rest (Ok given) =
    (IsToRead old × ((mid : ReaderView) × (row : BaseRow) × (more : List ℕ) × HasRead old mid rest row more × IsSameBase old mid × Gives mid new (Ok given) × Shows new.history new.place more × (new.left ≡ mid.left)))
    ⊎ ((IsToRead old → ⊥) × Gives old new (Ok given) × (new.place ≡ old.place) × (new.left ≡ old.left))
FindsNext old new rest (Err refusal) =
    (IsToRead old × (HasNoRow (old.next - 1) old.head.horizon old.place rest refusal ⊎ (refusal ≡ Memory)))
    ⊎ ((IsToRead old → ⊥) × GivesNone old refusal)

-- a head was read from the first byte on, and the rows are next
abbrev pub Begins : List ℕ → ReaderView → Type 0
Begins bytes r = (more : List ℕ) × (bytes ≡ head_text r.size r.left r.head ++ more) × IsHead r.head × (r.next ≡ 1) × (r.waiting ≡ None) × Shows r.history r.place more

-- why no base is begun: there is no mark, or no head behind it
abbrev pub RefusesBase : List ℕ → BaseRefusal → Type 0
RefusesBase bytes NoBase = HasMark bytes → ⊥
RefusesBase bytes other = HasNoHead 0 bytes other
