-- Internal. What opening a store gives, why it is refused, and what a crash may leave meanwhile.
use Rattle.std.specs.Prelude.{◌≡◌, ◌⊎◌, ℕ, ◌<◌, ◌≤◌, ◌-◌, ◌^◌, min, List, ◌++◌}
use Rattle.std.specs.declared.option.Option.{Option}
use Rattle.std.specs.declared.option.Option.TheVariants.{None, Some}
use Rattle.commit_book.specs.declared.change.Change.{Change}
use Rattle.disks.specs.Devices.{MayLeave}
use Rattle.disks.specs.Histories.{History, DiskView, device_of}
use Rattle.hub_core.specs.HubState.{HubView, IsAt}
use Rattle.hub_model.specs.Setting.{Setting}
use Rattle.record_log.specs.declared.log_record.LogRecord.{LogRecord}
use Rattle.record_log.specs.declared.refusal.LogRefusal.{LogRefusal}
use Rattle.record_log.specs.declared.refusal.LogRefusal.TheVariants as log
use Rattle.record_log.specs.Images.{IsReady}
use Rattle.record_log.specs.Logs.{LogView}
use Rattle.record_log.specs.Opened.{HasOpened, RefusesLog}
use Rattle.record_log.specs.Openings.{LeavesBehindSync}
use Rattle.durable_book.specs.declared.refusal.OpenRefusal.{OpenRefusal}
use Rattle.durable_book.specs.declared.refusal.OpenRefusal.TheVariants.{BadMark, BadRecord, TooSmall, DiskFault, Memory}
use Rattle.durable_book.specs.Images.{IsImageOf, MayWait, IsBefore, IsSoundWithin}
use Rattle.durable_book.specs.Journals.{journal_of, last_moment, last_kept, costs_of}
use Rattle.durable_book.specs.Moments.{guard_of}
use Rattle.durable_book.specs.KeptHub.{KeptView, StandsFor}
use Rattle.durable_book.specs.Replay.{opened_state, opening_of}

-- why a store is not opened whose log is refused
abbrev pub refusal_of_log : LogRefusal → OpenRefusal
refusal_of_log log.BadMark = BadMark
refusal_of_log (log.BadRecord place) = BadRecord place
refusal_of_log log.DiskFault = DiskFault
refusal_of_log log.Memory = Memory

-- The disk had a log of records, whose costs are within the capacity; the hub has come to what an opening by them comes to, at this moment, the log is theirs, and so are the kept moment and the guard.
pub record HasReplayed (g : Setting) (moment : ℕ) (before : Option History) (hub : HubView) (log : LogView) (kept guard : ℕ) : Type 0 where
  pub records : List LogRecord
  pub found : HasOpened before log records
  pub ready : IsReady log.history log.gate
  pub fits : costs_of (journal_of records) ≤ g.capacity
  pub setting : hub.setting ≡ g
  pub state : IsAt hub (opened_state g records moment)
  pub kept_is : kept ≡ last_kept records
  pub guard_is : guard ≡ guard_of g (last_moment records)

-- why the commits of records are not made
abbrev pub RefusesReplay : Setting → List LogRecord → OpenRefusal → Type 0
RefusesReplay g records (TooSmall bytes) = (g.capacity < costs_of (journal_of records)) × (bytes ≡ min (costs_of (journal_of records)) (2 ^ 64 - 1))
RefusesReplay g records Memory = Unit {0}
RefusesReplay g records other = ⊥

-- the disk has a log of records, whose costs are these bytes, and above the capacity
abbrev pub IsTooSmall : Setting → Option History → ℕ → Type 0
IsTooSmall g before bytes = (records : List LogRecord) × (log : LogView) × HasOpened before log records × RefusesReplay g records (TooSmall bytes)

-- why a store is not opened
abbrev pub RefusesStore : Setting → (before after : DiskView) → OpenRefusal → Type 0
RefusesStore g before after BadMark = RefusesLog before after log.BadMark
RefusesStore g before after (BadRecord place) = RefusesLog before after (log.BadRecord place)
RefusesStore g before after (TooSmall bytes) = IsTooSmall g before.history bytes
RefusesStore g before after DiskFault = before.faults < after.faults
RefusesStore g before after Memory = Unit {0}

-- each image that a crash may leave now, and what reads give, is sound and within the capacity; a disk that shows no history is not known to be so
abbrev pub IsSoundDisk : ℕ → Option History → Type 0
IsSoundDisk capacity None = ⊥
IsSoundDisk capacity (Some h) = (image : List ℕ) → (MayLeave (device_of h) image ⊎ (image ≡ (device_of h).seen)) → IsSoundWithin capacity image

-- the image stands for the journal that other bytes stand for, with their last kept moment and what waits in them waiting or gone; or with what waits in the journal, and no earlier moment
abbrev pub IsFoundIn : (seen image : List ℕ) → Type 0
IsFoundIn seen image =
    (journal : List Change) (kept : ℕ) (waiting : List LogRecord) → IsImageOf seen journal kept waiting → MayWait kept waiting
    → IsBefore journal kept image ⊎ (IsImageOf image journal kept waiting ⊎ ((later : ℕ) × (kept ≤ later) × IsBefore (journal ++ journal_of waiting) later image))

-- While a store is opened, the disk is as it was until its first sync has succeeded. At any moment from then on a crash leaves an image that stands for what was found: what reads gave.
abbrev pub LeavesFound : Option History → Option History → Type 0
LeavesFound None after = after ≡ None
LeavesFound (Some h) after = LeavesBehindSync h after (IsFoundIn (device_of h).seen)

-- The store stands for the history of an opening at a moment, by records that the disk had.
pub record Opens (g : Setting) (moment : ℕ) (before : Option History) (k : KeptView) : Type 0 where
  pub records : List LogRecord
  pub found : HasOpened before k.log records
  pub stands : StandsFor k (opening_of g records moment)

-- the answers of an opening that depend on chance alone
abbrev pub IsChance : OpenRefusal → Type 0
IsChance DiskFault = Unit {0}
IsChance Memory = Unit {0}
IsChance other = ⊥
