-- Internal. What contracts see of a disk, and what a call does to it.
use Rattle.std.specs.Prelude.{◌≡◌, ℕ, ◌+◌, ◌^◌, ◌<◌, ◌≤◌, ◌⊎◌, List, [], ◌∷◌, ◌++◌, length, take, drop, Option, Some, None, Result, Ok, Err}
use Rattle.disks.specs.Devices.{DiskCall, Device, device, MayLeave, IsTorn, crashed}
use Rattle.disks.specs.Devices.{Wrote, Tore, Synced}

-- What a disk held at rest, and the calls since then, of which the newest is first.
pub record History : Type 0 where
  pub start : List ℕ
  pub calls : List DiskCall

-- What contracts see of a disk: its history, where it shows one, and the number of its faults. Of one that shows none, nothing is claimed.
pub record DiskView : Type 0 where
  pub history : Option History
  pub faults : ℕ

-- the disk after the calls of its history
abbrev pub device_of : History → Device
device_of h = device h.start h.calls

-- these calls, of which the newest is first, led from one history to the other
abbrev pub Goes : Option History → Option History → List DiskCall → Type 0
Goes None after calls = after ≡ None
Goes (Some before) after calls = after ≡ Some (record { start = before.start; calls = calls ++ before.calls })

-- a length is that of what reads give
abbrev pub HasLength : Option History → ℕ → Type 0
HasLength None size = Unit {0}
HasLength (Some h) size = size ≡ length (device_of h).seen

-- a place that is not behind the end
abbrev pub IsWithin : Option History → ℕ → Type 0
IsWithin None place = Unit {0}
IsWithin (Some h) place = place ≤ length (device_of h).seen

-- the first `count` bytes of the buffer are those from the place on, as many as the buffer takes or up to the end
abbrev pub Reads : Option History → ℕ → List ℕ → ℕ → Type 0
Reads None place into count = count ≤ length into
Reads (Some h) place into count =
    (count ≡ length (take (length into) (drop place (device_of h).seen))) × (take count into ≡ take (length into) (drop place (device_of h).seen))

-- a read: the bytes are there, or the count of faults rose
abbrev pub HasRead : {E : Type 0} → (before after : DiskView) → ℕ → List ℕ → Result ℕ E → Type 0
HasRead before after place into (Ok count) = Reads before.history place into count × Goes before.history after.history [] × (before.faults ≤ after.faults)
HasRead before after place into (Err failed) = Goes before.history after.history [] × (before.faults < after.faults)

-- a write that failed did nothing, or left what reads give now
abbrev pub Tears : Option History → Option History → ℕ → List ℕ → Type 0
Tears None after place bytes = after ≡ None
Tears (Some before) after place bytes =
    (after ≡ Some before) ⊎ ((left : List ℕ) × IsTorn place bytes (device_of before).seen left × Goes (Some before) after (Tore place bytes left ∷ []))

-- a write: it is done, and ends at a place that 8 bytes can tell; or it failed and the count of faults rose
abbrev pub HasWritten : {E : Type 0} → (before after : DiskView) → ℕ → List ℕ → Result (Unit {0}) E → Type 0
HasWritten before after place bytes (Ok done) =
    Goes before.history after.history (Wrote place bytes ∷ []) × (place + length bytes < 2 ^ 64) × (before.faults ≤ after.faults)
HasWritten before after place bytes (Err failed) = Tears before.history after.history place bytes × (before.faults < after.faults)

-- a sync: it is done, or it failed, changed nothing, and the count of faults rose
abbrev pub HasSynced : {E : Type 0} → (before after : DiskView) → Result (Unit {0}) E → Type 0
HasSynced before after (Ok done) = Goes before.history after.history (Synced ∷ []) × (before.faults ≤ after.faults)
HasSynced before after (Err failed) = Goes before.history after.history [] × (before.faults < after.faults)

-- The disk crashed: it is at rest with an image that a crash may leave, of its present length, in which the draws stand for what may be any.
pub record HasCrashed (before after : DiskView) (draws : List ℕ) : Type 0 where
  pub history : History
  pub was : before.history ≡ Some history
  pub is : after.history ≡ Some (record { start = crashed (device_of history) draws; calls = [] })
  pub may : MayLeave (device_of history) (crashed (device_of history) draws)
  pub faults : after.faults ≡ before.faults
