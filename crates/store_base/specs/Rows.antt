-- Internal. What is read of a row.
use Rattle.std.specs.Prelude.{◌≡◌, ◌⊎◌, ℕ, ◌+◌, ◌<◌, ◌≤◌, true, List, ◌++◌, length, is_some, Result, Ok, Err}
use Rattle.std.specs.declared.option.Option.{Option}
use Rattle.std.specs.declared.option.Option.TheVariants.{None, Some}
use Rattle.commit_book.specs.declared.change.Change.{Change}
use Rattle.record_log.specs.Records.{change_in, greatest_clock}
use Rattle.store_base.specs.declared.base.BaseRow.{BaseRow}
use Rattle.store_base.specs.declared.fields.RowStart.{RowStart}
use Rattle.store_base.specs.declared.refusal.BaseRefusal.{BaseRefusal}
use Rattle.store_base.specs.declared.refusal.BaseRefusal.TheVariants.{Torn, BadNumber, Falls, AboveHorizon, TooLong, BadChange, DiskFault, Memory}
use Rattle.store_base.specs.Texts.{row_start}
use Rattle.store_base.specs.Windows.{WindowView, Shows}

-- the length of the longest body: that of two names of 64 bytes and a document of 65,536
abbrev pub most_body : ℕ
most_body = 65666

-- bytes begin with what stands before a row's body
abbrev pub StartsWith : List ℕ → RowStart → List ℕ → Type 0
StartsWith rest start more = rest ≡ row_start start.commit start.clock start.size ++ more

-- A row of this start may stand behind a commit and up to a horizon.
pub record IsStart (last horizon : ℕ) (start : RowStart) : Type 0 where
  pub rises : last < start.commit
  pub within : start.commit ≤ horizon
  pub clock : start.clock ≤ greatest_clock
  pub size : start.size ≤ most_body

-- why it may not
abbrev pub RefusesStart : (last horizon place : ℕ) → RowStart → BaseRefusal → Type 0
RefusesStart last horizon place start (Falls bad) = (bad ≡ place) × (start.commit ≤ last)
RefusesStart last horizon place start (AboveHorizon bad) = (bad ≡ place) × (horizon < start.commit)
RefusesStart last horizon place start (BadNumber bad) = (bad ≡ place + 8) × (greatest_clock < start.clock)
RefusesStart last horizon place start (TooLong bad) = (bad ≡ place + 16) × (most_body < start.size)
RefusesStart last horizon place start other = ⊥

-- whether it may
abbrev pub JudgesStart : (last horizon place : ℕ) → RowStart → Result (Unit {0}) BaseRefusal → Type 0
JudgesStart last horizon place start (Ok done) = IsStart last horizon start
JudgesStart last horizon place start (Err refusal) = RefusesStart last horizon place start refusal

-- why no start is read: the disk ends before its end, or no row of it may stand here
abbrev pub HasNoStart : (last horizon place : ℕ) → List ℕ → BaseRefusal → Type 0
HasNoStart last horizon place rest (Torn bad) = (bad ≡ place) × (length rest < 20)
HasNoStart last horizon place rest DiskFault = Unit {0}
HasNoStart last horizon place rest Memory = Unit {0}
HasNoStart last horizon place rest other = (start : RowStart) × (more : List ℕ) × StartsWith rest start more × RefusesStart last horizon place start other

-- what stands before a row's body was read, and what is behind it is next
abbrev pub FindsStart : (last horizon place : ℕ) → List ℕ → WindowView → Result RowStart BaseRefusal → Type 0
FindsStart last horizon place rest after (Ok start) =
    (more : List ℕ) × StartsWith rest start more × IsStart last horizon start × Shows after.history after.place more × (after.place ≡ place + 20)
FindsStart last horizon place rest after (Err refusal) = HasNoStart last horizon place rest refusal

-- there is no change, or one that deletes
abbrev pub PutsNone : Option Change → Type 0
PutsNone None = Unit {0}
PutsNone (Some change) = change.document ≡ None

-- the body of a change that puts a document, or of none, which is told with this place
abbrev pub IsPutIn : ℕ → List ℕ → Result Change BaseRefusal → Type 0
IsPutIn place body (Ok change) = (change_in body ≡ Some change) × (is_some change.document ≡ true)
IsPutIn place body (Err (BadChange bad)) = (bad ≡ place) × PutsNone (change_in body)
IsPutIn place body (Err Memory) = Unit {0}
IsPutIn place body (Err other) = ⊥

-- why no change is read
abbrev pub HasNoChange : (place size : ℕ) → List ℕ → BaseRefusal → Type 0
HasNoChange place size rest (Torn bad) = (bad ≡ place) × (length rest < size)
HasNoChange place size rest (BadChange bad) = (body more : List ℕ) × (bad ≡ place) × (rest ≡ body ++ more) × (length body ≡ size) × PutsNone (change_in body)
HasNoChange place size rest DiskFault = Unit {0}
HasNoChange place size rest Memory = Unit {0}
HasNoChange place size rest other = ⊥

-- a change that puts a document was read from a body of this size, and what is behind it is next
abbrev pub FindsChange : (place size : ℕ) → List ℕ → WindowView → Result Change BaseRefusal → Type 0
FindsChange place size rest after (Ok change) =
    (body more : List ℕ) × (rest ≡ body ++ more) × (length body ≡ size) × (change_in body ≡ Some change) × (is_some change.document ≡ true) × Shows after.history after.place more × (after.place ≡ place + size)
FindsChange place size rest after (Err refusal) = HasNoChange place size rest refusal

-- Bytes begin with a row that may stand behind a commit and up to a horizon, whose body is read as its change; these are behind it.
pub record IsRow (last horizon : ℕ) (rest : List ℕ) (row : BaseRow) (more : List ℕ) : Type 0 where
  pub body : List ℕ
  pub text : rest ≡ row_start row.commit row.clock (length body) ++ (body ++ more)
  pub start : IsStart last horizon (record { commit = row.commit; clock = row.clock; size = length body })
  pub change : change_in body ≡ Some row.change
  pub puts : is_some row.change.document ≡ true

-- why no row is read: for its start, or for the body behind it
abbrev pub HasNoRow : (last horizon place : ℕ) → List ℕ → BaseRefusal → Type 0
HasNoRow last horizon place rest refusal = HasNoStart last horizon place rest refusal
    ⊎ ((start : RowStart) × (more : List ℕ) × StartsWith rest start more × IsStart last horizon start × HasNoChange (place + 20) start.size more refusal)

-- a row was read, and what is behind it is next
abbrev pub FindsRow : (last horizon place : ℕ) → List ℕ → WindowView → Result BaseRow BaseRefusal → Type 0
FindsRow last horizon place rest after (Ok row) = (more : List ℕ) × IsRow last horizon rest row more × Shows after.history after.place more
FindsRow last horizon place rest after (Err refusal) = HasNoRow last horizon place rest refusal
