-- Internal. What contracts see of a store on a disk, and the history that it stands for.
use Rattle.std.specs.Prelude.{◌≡◌, ◌⊎◌, ℕ, ◌<◌, Bool, true, false, List, All}
use Rattle.std.specs.declared.option.Option.{Option}
use Rattle.std.specs.declared.option.Option.TheVariants.{None, Some}
use Rattle.commit_book.specs.declared.change.Change.{Change}
use Rattle.disks.specs.Histories.{History}
use Rattle.hub_core.specs.HubState.{HubView, IsAt, IsAsBefore}
use Rattle.hub_model.specs.declared.entry.Entry.{Entry}
use Rattle.hub_model.specs.Legal.{IsLegal}
use Rattle.hub_model.specs.State.{State}
use Rattle.hub_model.specs.Step.{state_of}
use Rattle.record_log.specs.declared.log_record.LogRecord.{LogRecord}
use Rattle.record_log.specs.Frames.{Frame}
use Rattle.record_log.specs.Images.{IsLog, IsReady}
use Rattle.record_log.specs.Logs.{LogView}
use Rattle.record_log.specs.Opened.{Say}
use Rattle.durable_book.specs.declared.refusal.KeptRefusal.{KeptRefusal}
use Rattle.durable_book.specs.declared.refusal.KeptRefusal.TheVariants.{DiskFault, Reopen, Memory}
use Rattle.durable_book.specs.Journals.{journal_of, last_kept}

-- What contracts see of a store: its hub, its log with what the disk shows, the kept moment (0 without one), the guard, and whether it is broken.
pub record KeptView : Type 0 where
  pub hub : HubView
  pub log : LogView
  pub kept : ℕ
  pub guard : ℕ
  pub broken : Bool

-- nothing is pending on the disk, and it has records of this journal, of which this is the last kept moment, and behind them a closed gate; of a disk that shows no history it claims nothing
abbrev pub HoldsJournal : Option History → ℕ → List Change → ℕ → Type 0
HoldsJournal None gate journal kept = Unit {0}
HoldsJournal (Some h) gate journal kept =
    (fs : List Frame) × (records : List LogRecord) × IsLog (Some h) gate fs × Say fs records × (journal_of records ≡ journal) × (last_kept records ≡ kept)

-- A store that is not broken has come to a state: its hub has, the disk holds the state's journal with the kept moment, and this is above the clock of each read; nothing was ever dropped.
pub record KeepsState (k : KeptView) (s : State) : Type 0 where
  pub sound : k.broken ≡ false
  pub hub : IsAt k.hub s
  pub disk : HoldsJournal k.log.history k.log.gate s.journal k.kept
  pub reads : All (λ r. r.clock < k.kept) s.copies
  pub whole : s.horizon ≡ 0

-- the store stands for a history, which is legal
pub record StandsFor (k : KeptView) (history : List Entry) : Type 0 where
  pub state : KeepsState k (state_of k.hub.setting history)
  pub legal : IsLegal k.hub.setting history

-- a store that is not broken is ready for a further record
abbrev pub IsUsable : LogView → Bool → Type 0
IsUsable log broken = broken ≡ false → IsReady log.history log.gate

-- no call changes the configuration and the guard
pub record IsSameStore (old new : KeptView) : Type 0 where
  pub setting : new.hub.setting ≡ old.hub.setting
  pub guard : new.guard ≡ old.guard

-- nothing was written to the disk
pub record WroteNothing (old new : KeptView) : Type 0 where
  pub log : new.log ≡ old.log
  pub kept : new.kept ≡ old.kept
  pub broken : new.broken ≡ old.broken

-- why a call has no answer, and what it leaves: a fault breaks the store, and nothing else is changed; a broken one stays as it is; want of memory leaves the hub as before, and breaks the store exactly where something was written, which is then stored
abbrev pub RefusesCall : (old new : KeptView) → (IsStored : Type 0) → KeptRefusal → Type 0
RefusesCall old new IsStored DiskFault = (old.broken ≡ false) × (old.log.faults < new.log.faults) × (new ≡ record old { log = new.log; broken = true })
RefusesCall old new IsStored Reopen = (old.broken ≡ true) × (new ≡ old)
RefusesCall old new IsStored Memory = (old.broken ≡ false) × IsAsBefore old.hub new.hub × (WroteNothing old new ⊎ ((new.broken ≡ true) × IsStored))

-- why a call that makes no call of the disk has no answer
abbrev pub RefusesDiskless : (old new : KeptView) → KeptRefusal → Type 0
RefusesDiskless old new DiskFault = ⊥
RefusesDiskless old new Reopen = (old.broken ≡ true) × (new ≡ old)
RefusesDiskless old new Memory = (old.broken ≡ false) × IsAsBefore old.hub new.hub

-- why a call that takes no memory and makes no call of the disk has no answer
abbrev pub RefusesQuiet : (old new : KeptView) → KeptRefusal → Type 0
RefusesQuiet old new DiskFault = ⊥
RefusesQuiet old new Reopen = (old.broken ≡ true) × (new ≡ old)
RefusesQuiet old new Memory = ⊥
