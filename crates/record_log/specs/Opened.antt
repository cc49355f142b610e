-- Internal. What opening a log gives, why it is refused, and what a crash may leave meanwhile.
use Rattle.std.specs.Prelude.{◌≡◌, ◌≢◌, ◌⊎◌, ℕ, ◌<◌, ◌≤◌, List, [], ◌∷◌, ◌++◌, length}
use Rattle.std.specs.declared.option.Option.{Option}
use Rattle.std.specs.declared.option.Option.TheVariants.{None, Some}
use Rattle.disks.specs.Histories.{History, DiskView, device_of}
use Rattle.record_log.specs.declared.log_record.LogRecord.{LogRecord}
use Rattle.record_log.specs.declared.refusal.LogRefusal.{LogRefusal}
use Rattle.record_log.specs.declared.refusal.LogRefusal.TheVariants.{BadMark, BadRecord, DiskFault, Memory}
use Rattle.record_log.specs.Frames.{Frame, Fits, open_gate, closed_gate, front_of}
use Rattle.record_log.specs.Images.{IsLog, new_log, empty_length}
use Rattle.record_log.specs.Logs.{LogView}
use Rattle.record_log.specs.Openings.{IsStart, LeavesBehindSync, HasBadMark, IsBad}
use Rattle.record_log.specs.Records.{record_of}

-- the frames are those of the records, in order
abbrev pub Say : List Frame → List LogRecord → Type 0
Say [] [] = Unit {0}
Say [] (r ∷ rs) = ⊥
Say (f ∷ fs) [] = ⊥
Say (f ∷ fs) (r ∷ rs) = Fits f × (record_of f ≡ Some r) × Say fs rs

-- bytes, which are more than a new log, have these frames and then others; or they are a new log that is not yet written, which has none
abbrev pub HaveFrames : List ℕ → List Frame → List ℕ → Type 0
HaveFrames bytes fs rest = ((bytes ≡ front_of fs ++ rest) × (empty_length < length bytes)) ⊎ ((length bytes ≤ empty_length) × (front_of fs ++ rest ≡ new_log))

-- the disk had the frames of these records up to a gate that is not open, and is a log of these now
abbrev pub HasOpened : Option History → LogView → List LogRecord → Type 0
HasOpened None log records = log.history ≡ None
HasOpened (Some h) log records = (fs : List Frame) × (gate : ℕ) × (behind : List ℕ) × Say fs records × HaveFrames (device_of h).seen fs (gate ∷ behind) × (gate ≢ open_gate) × IsLog log.history log.gate fs

-- the disk has records up to a gate at this place, which is missing, or open with no record behind it
abbrev pub HasBadRecord : Option History → ℕ → Type 0
HasBadRecord None place = Unit {0}
HasBadRecord (Some h) place = (fs : List Frame) × (rs : List LogRecord) × (rest : List ℕ) × Say fs rs × HaveFrames (device_of h).seen fs rest × (place ≡ length (front_of fs)) × IsBad rest

-- why a log is not opened
abbrev pub RefusesLog : (before after : DiskView) → LogRefusal → Type 0
RefusesLog before after BadMark = HasBadMark before.history
RefusesLog before after (BadRecord place) = HasBadRecord before.history place
RefusesLog before after DiskFault = before.faults < after.faults
RefusesLog before after Memory = Unit {0}

-- a gate of what reads gave, which is more than a new log, is neither open nor closed, and any byte stands in its place
abbrev pub IsRepair : History → List ℕ → Type 0
IsRepair h image = (fs : List Frame) × (rs : List LogRecord) × (gate byte : ℕ) × (behind more : List ℕ) × Say fs rs × ((device_of h).seen ≡ front_of fs ++ gate ∷ behind)
    × (gate ≢ open_gate) × (gate ≢ closed_gate) × (image ≡ front_of fs ++ byte ∷ (behind ++ more)) × (empty_length < length (device_of h).seen)

-- while a log is opened, the disk is as it was until the first sync has succeeded; from then on a crash at any moment leaves what reads gave, a new log that is not yet written, or a gate that is being closed
abbrev pub LeavesOpening : Option History → Option History → Type 0
LeavesOpening None after = after ≡ None
LeavesOpening (Some h) after = LeavesBehindSync h after (λ image. IsStart h image ⊎ IsRepair h image)
