-- Internal. What opening a log does: what a crash may leave meanwhile, and what each step finds.
use Rattle.std.specs.Prelude.{◌≡◌, ◌≢◌, ◌⊎◌, ℕ, ◌+◌, ◌<◌, ◌≤◌, List, [], ◌∷◌, ◌++◌, length, get_or, Result, Ok, Err}
use Rattle.std.specs.declared.option.Option.{Option}
use Rattle.std.specs.declared.option.Option.TheVariants.{None, Some}
use Rattle.disks.specs.Devices.{Synced, at_rest}
use Rattle.disks.specs.Histories.{History, DiskView, device_of}
use Rattle.disks.specs.Moments.{Leaves}
use Rattle.record_log.specs.declared.log_record.LogRecord.{LogRecord}
use Rattle.record_log.specs.declared.refusal.LogRefusal.{LogRefusal}
use Rattle.record_log.specs.declared.refusal.LogRefusal.TheVariants.{BadMark, BadRecord, DiskFault, Memory}
use Rattle.record_log.specs.Frames.{Frame, Fits, mark, open_gate, closed_gate, opened, front_of}
use Rattle.record_log.specs.Images.{IsLog, new_log, empty_length}
use Rattle.record_log.specs.Logs.{LogView}
use Rattle.record_log.specs.Records.{record_of}

-- nothing is pending, the disk shows these frames and behind them these bytes, and they are the next to read
abbrev pub IsReading : Option History → ℕ → List Frame → List ℕ → Type 0
IsReading None place fs rest = ⊥
IsReading (Some h) place fs rest = (device_of h ≡ at_rest (front_of fs ++ rest)) × (place ≡ length (front_of fs))

-- a history with a sync more
abbrev pub synced : History → History
synced h = record { start = h.start; calls = Synced ∷ h.calls }

-- the disk is as it was; or a sync came first, and at any moment from then on a crash leaves an image with the property
abbrev pub LeavesBehindSync : History → Option History → (List ℕ → Type 0) → Type 0
LeavesBehindSync h after P = (after ≡ Some h) ⊎ Leaves (Some (synced h)) after P

-- until it is read, a synced disk may be left with what reads give, or as a new log that is not yet written
abbrev pub IsStart : History → List ℕ → Type 0
IsStart h image = (image ≡ (device_of h).seen) ⊎ ((length (device_of h).seen ≤ empty_length) × (length image ≤ empty_length))

-- a sync came first, and at any moment from then on a crash leaves such an image
abbrev pub LeavesBegun : Option History → Option History → Type 0
LeavesBegun None after = after ≡ None
LeavesBegun (Some h) after = Leaves (Some (synced h)) after (IsStart h)

-- the disk is as it was, or that
abbrev pub LeavesStart : Option History → Option History → Type 0
LeavesStart None after = after ≡ None
LeavesStart (Some h) after = LeavesBehindSync h after (IsStart h)

-- the bytes behind the mark are the next to read: those that the disk had, where it had more than a new log, or those of a new log
abbrev pub HasBegun : Option History → Option History → ℕ → Type 0
HasBegun None after place = after ≡ None
HasBegun (Some h) after place = (rest : List ℕ) × IsReading after place [] rest
    × ((((device_of h).seen ≡ mark ++ rest) × (empty_length < length (device_of h).seen)) ⊎ ((length (device_of h).seen ≤ empty_length) × (mark ++ rest ≡ new_log)))

-- a disk has more bytes than a new log, and they do not begin with the mark
abbrev pub HasBadMark : Option History → Type 0
HasBadMark None = Unit {0}
HasBadMark (Some h) = (empty_length < length (device_of h).seen) × ((rest : List ℕ) → (device_of h).seen ≢ mark ++ rest)

-- why a disk is not read
abbrev pub RefusesMark : (before after : DiskView) → LogRefusal → Type 0
RefusesMark before after BadMark = HasBadMark before.history
RefusesMark before after (BadRecord place) = ⊥
RefusesMark before after DiskFault = before.faults < after.faults
RefusesMark before after Memory = ⊥

-- no gate is there, or an open one with no record behind it
abbrev pub IsBad : List ℕ → Type 0
IsBad rest = (rest ≡ [])
    ⊎ ((get_or rest 0 0 ≡ open_gate) × ((f : Frame) (more : List ℕ) → Fits f → rest ≡ opened f ++ more → record_of f ≡ None))

-- a record was read behind an open gate, and the bytes behind it are the next
abbrev pub HasRecord : (old new : LogView) → List Frame → List ℕ → LogRecord → Type 0
HasRecord old new fs rest r = (f : Frame) × (more : List ℕ) × Fits f × (record_of f ≡ Some r) × (rest ≡ opened f ++ more)
    × (new.history ≡ old.history) × (new.gate ≡ old.gate + length (opened f))

-- while a gate is closed, a crash leaves any byte there
abbrev pub IsClosing : List Frame → List ℕ → List ℕ → Type 0
IsClosing fs rest image = (image ≡ front_of fs ++ rest)
    ⊎ ((gate : ℕ) × (byte : ℕ) × (behind more : List ℕ) × (rest ≡ gate ∷ behind) × (gate ≢ open_gate) × (gate ≢ closed_gate) × (image ≡ front_of fs ++ byte ∷ (behind ++ more)))

-- the same at any moment from one history to another
abbrev pub LeavesClosing : Option History → Option History → List Frame → List ℕ → Type 0
LeavesClosing before after fs rest = Leaves before after (IsClosing fs rest)

-- the gate that is next is not open, and is closed now
abbrev pub HasEnded : (old new : LogView) → List Frame → List ℕ → Type 0
HasEnded old new fs rest = (gate : ℕ) × (behind : List ℕ) × (rest ≡ gate ∷ behind) × (gate ≢ open_gate) × IsLog new.history new.gate fs × (new.gate ≡ old.gate)

-- what a step of reading found, by its result
abbrev pub Finds : (old new : LogView) → List Frame → List ℕ → Result (Option LogRecord) LogRefusal → Type 0
Finds old new fs rest (Ok (Some r)) = HasRecord old new fs rest r
Finds old new fs rest (Ok None) = HasEnded old new fs rest
Finds old new fs rest (Err BadMark) = ⊥
Finds old new fs rest (Err (BadRecord place)) = (place ≡ old.gate) × IsBad rest × (new.history ≡ old.history)
Finds old new fs rest (Err DiskFault) = old.faults < new.faults
Finds old new fs rest (Err Memory) = new.history ≡ old.history
