-- Internal. What is read ahead of a disk.
use Rattle.std.specs.Prelude.{◌≡◌, ◌⊎◌, ℕ, ◌≤◌, List, ◌++◌, length, take, drop}
use Rattle.std.specs.declared.option.Option.{Option}
use Rattle.std.specs.declared.option.Option.TheVariants.{None, Some}
use Rattle.disks.specs.Histories.{History, device_of}
use Rattle.store_base.specs.declared.refusal.BaseRefusal.{BaseRefusal}
use Rattle.store_base.specs.declared.refusal.BaseRefusal.TheVariants.{DiskFault, Memory}

-- What contracts see: what the disk shows, the place of the next byte, and the bytes that were read from there on.
pub record WindowView : Type 0 where
  pub history : Option History
  pub faults : ℕ
  pub place : ℕ
  pub ahead : List ℕ

-- bytes are the first of those from a place on; of a disk that shows no history nothing is claimed
abbrev pub IsAhead : Option History → ℕ → List ℕ → Type 0
IsAhead None place ahead = Unit {0}
IsAhead (Some h) place ahead = (more : List ℕ) × (drop place (device_of h).seen ≡ ahead ++ more)

-- they are so many, or all
abbrev pub IsFilled : Option History → ℕ → List ℕ → ℕ → Type 0
IsFilled None place ahead count = Unit {0}
IsFilled (Some h) place ahead count = (count ≤ length ahead) ⊎ (drop place (device_of h).seen ≡ ahead)

-- the bytes are so many from a place on, or up to the end
abbrev pub AreTaken : Option History → ℕ → ℕ → List ℕ → Type 0
AreTaken None place size bytes = length bytes ≤ size
AreTaken (Some h) place size bytes = bytes ≡ take size (drop place (device_of h).seen)

-- reads give these bytes from a place on; a disk that shows no history shows none
abbrev pub Shows : Option History → ℕ → List ℕ → Type 0
Shows None place rest = ⊥
Shows (Some h) place rest = drop place (device_of h).seen ≡ rest

-- bytes were not read since the disk failed, or for want of memory
abbrev pub IsReadFault : BaseRefusal → Type 0
IsReadFault DiskFault = Unit {0}
IsReadFault Memory = Unit {0}
IsReadFault other = ⊥
