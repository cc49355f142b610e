-- Internal. What the calls of a store on a disk do.
use Rattle.std.specs.Prelude.{◌≡◌, ◌⊎◌, ℕ, ◌<◌, ◌≤◌, max, Bool, true, List, [], ◌∷◌, ◌++◌}
use Rattle.std.specs.declared.option.Option.{Option}
use Rattle.std.specs.declared.option.Option.TheVariants.{None, Some}
use Rattle.commit_book.specs.declared.change.Change.{Change}
use Rattle.disks.specs.Moments.{Leaves}
use Rattle.hub_core.specs.HubState.{IsAt}
use Rattle.hub_model.specs.declared.entry.Condition.{Condition}
use Rattle.hub_model.specs.declared.entry.Entry.{Entry}
use Rattle.hub_model.specs.declared.entry.Entry.TheVariants.{Write}
use Rattle.hub_model.specs.declared.entry.Written.{Written}
use Rattle.hub_model.specs.declared.entry.Written.TheVariants.{Done, Precondition, Full}
use Rattle.hub_model.specs.Helps.{helps_of}
use Rattle.hub_model.specs.Reply.{Replied, wrote, reply_in}
use Rattle.hub_model.specs.State.{State}
use Rattle.hub_model.specs.Step.{after, after_all}
use Rattle.record_log.specs.declared.log_record.LogRecord.{LogRecord}
use Rattle.record_log.specs.declared.log_record.LogRecord.TheVariants.{Commit, Moment}
use Rattle.record_log.specs.Batches.{IsFrameOf}
use Rattle.record_log.specs.Frames.{Frame}
use Rattle.record_log.specs.Images.{IsLog, IsBeforeOrAfter}
use Rattle.record_log.specs.Logs.{LogView}
use Rattle.record_log.specs.Records.{frame_of}
use Rattle.durable_book.specs.declared.refusal.KeptRefusal.{KeptRefusal}
use Rattle.durable_book.specs.declared.refusal.KeptRefusal.TheVariants.{DiskFault, Reopen, Memory}
use Rattle.durable_book.specs.Images.{IsBefore, IsInRead, IsInWrite}
use Rattle.durable_book.specs.KeptHub.{KeptView, KeepsState}
use Rattle.durable_book.specs.Moments.{kept_behind, moment_to_keep}

-- the reply is that to a write, in any state that the hub has come to
abbrev pub TellsWrite : KeptView → ℕ → Change → Condition → Written → Type 0
TellsWrite k moment change condition told =
    (s : State) → IsAt k.hub s
    → wrote told ≡ reply_in k.hub.setting (after_all k.hub.setting s (helps_of k.hub.setting s (Write moment change condition))) (Write moment change condition)

-- the store goes on from any state that it has come to by a write, behind what helps it
abbrev pub GoesByWrite : (old new : KeptView) → ℕ → Change → Condition → Type 0
GoesByWrite old new moment change condition =
    (s : State) → KeepsState old s
    → KeepsState new (after_all old.hub.setting s (helps_of old.hub.setting s (Write moment change condition) ++ Write moment change condition ∷ []))

-- the reply is that to an entry
abbrev pub Tells : KeptView → Entry → Replied → Type 0
Tells k e told = (s : State) → IsAt k.hub s → told ≡ reply_in k.hub.setting s e

-- the store goes on by an entry
abbrev pub GoesBy : (old new : KeptView) → Entry → Type 0
GoesBy old new e = (s : State) → KeepsState old s → KeepsState new (after old.hub.setting s e)

-- at any moment of a write a crash leaves the journal, with the change or without it
abbrev pub LeavesWrite : (old new : KeptView) → Change → Type 0
LeavesWrite old new change =
    (s : State) → KeepsState old s → Leaves old.log.history new.log.history (IsInWrite old.hub.setting.capacity s.journal old.kept change)

-- at any moment of a read a crash leaves the journal, and the kept moment or a later one
abbrev pub LeavesRead : (old new : KeptView) → Type 0
LeavesRead old new = (s : State) → KeepsState old s → Leaves old.log.history new.log.history (IsInRead s.journal old.kept)

-- ---- what the log has more

-- the log has this record more
abbrev pub AddsRecord : (old new : LogView) → LogRecord → Type 0
AddsRecord old new r = IsFrameOf (frame_of r) r × ((fs : List Frame) → IsLog old.history old.gate fs → IsLog new.history new.gate (fs ++ frame_of r ∷ []))

-- the log has this moment more, or no record more
abbrev pub AddsMoment : (old new : LogView) → Option ℕ → Type 0
AddsMoment old new None = new ≡ old
AddsMoment old new (Some later) = AddsRecord old new (Moment later)

-- the log has the change more that is told done, at the clock that is told; and no record more of one that is refused
abbrev pub AddsChange : (old new : LogView) → Change → Written → Type 0
AddsChange old new change (Done commit before clock) = AddsRecord old new (Commit clock change)
AddsChange old new change (Precondition found clock) = new ≡ old
AddsChange old new change (Full bytes clock) = new ≡ old

-- the same of the reply to a write, in any state that the hub had come to
abbrev pub StoresWrite : (old new : KeptView) → Change → Written → Type 0
StoresWrite old new change told = (s : State) → IsAt old.hub s → AddsChange old.log new.log change told

-- A read stores the clock and 60 seconds, where the clock is not below the kept moment, and this is the kept moment then; else it stores nothing.
pub record StoresRead (old new : KeptView) (moment : ℕ) : Type 0 where
  pub log : AddsMoment old.log new.log (moment_to_keep (max old.hub.clock moment) old.kept)
  pub kept : new.kept ≡ kept_behind (max old.hub.clock moment) old.kept

-- the change is stored, at some clock
abbrev pub HasStoredChange : (old new : KeptView) → Change → Type 0
HasStoredChange old new change = (clock : ℕ) × AddsRecord old.log new.log (Commit clock change)

-- a later moment is stored
abbrev pub HasStoredMoment : (old new : KeptView) → ℕ → Type 0
HasStoredMoment old new moment = (old.kept ≤ max old.hub.clock moment) × StoresRead old new moment

-- ---- what a crash leaves meanwhile

-- nothing was written; or at any moment a crash leaves the records before, with this one waiting or not, or with it
abbrev pub LeavesRecord : (old new : LogView) → LogRecord → Type 0
LeavesRecord old new r =
    (new ≡ old) ⊎ (IsFrameOf (frame_of r) r × ((fs : List Frame) → IsLog old.history old.gate fs → Leaves old.history new.history (IsBeforeOrAfter fs (frame_of r ∷ []))))

-- the same of a moment, or nothing was written
abbrev pub LeavesMoment : (old new : LogView) → Option ℕ → Type 0
LeavesMoment old new None = new ≡ old
LeavesMoment old new (Some later) = LeavesRecord old new (Moment later)

-- the same of a change that will be told so
abbrev pub LeavesChange : (old new : LogView) → Change → Written → Type 0
LeavesChange old new change (Done commit before clock) = LeavesRecord old new (Commit clock change)
LeavesChange old new change (Precondition found clock) = new ≡ old
LeavesChange old new change (Full bytes clock) = new ≡ old

-- why a record is not stored, by whether the store was broken and is
abbrev pub RefusesRecord : (old new : LogView) → (was is : Bool) → KeptRefusal → Type 0
RefusesRecord old new was is DiskFault = (is ≡ true) × (old.faults < new.faults)
RefusesRecord old new was is Reopen = ⊥
RefusesRecord old new was is Memory = (new ≡ old) × (is ≡ was)

-- ---- what a crash leaves behind a call

-- behind a write a crash leaves the journal that the write led to, with the kept moment
abbrev pub LastsWrite : (old new : KeptView) → ℕ → Change → Condition → Type 0
LastsWrite old new moment change condition =
    (s : State) → KeepsState old s
    → Leaves new.log.history new.log.history (IsBefore (after_all old.hub.setting s (helps_of old.hub.setting s (Write moment change condition) ++ Write moment change condition ∷ [])).journal new.kept)

-- behind a read a crash leaves the journal, with the kept moment that is above its clock
abbrev pub LastsRead : (old new : KeptView) → Type 0
LastsRead old new = (s : State) → KeepsState old s → Leaves new.log.history new.log.history (IsBefore s.journal new.kept)
