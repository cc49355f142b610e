-- Internal. What a disk in memory keeps, against its history.
use Rattle.std.specs.Prelude.{◌≡◌, ℕ, ◌<◌, ◌≤◌, false, List, length, slice_index}
use Rattle.std.specs.List.{list_any}
use Rattle.disks.specs.declared.range.ByteRange.{ByteRange}
use Rattle.disks.specs.Devices.{Device}
use Rattle.disks.specs.Ranges.{is_in}

-- What is outside the ranges written since the last sync is as it was then, and the length has grown at most to the limit.
pub record IsSound (d : Device) : Type 0 where
  pub grown : length d.synced ≤ length d.seen
  pub limit : length d.seen ≤ d.limit
  pub same : (i : ℕ) → i < length d.synced → list_any (is_in i) d.ranges ≡ false → slice_index d.seen i ≡ slice_index d.synced i

-- The disk holds these bytes, of which so many are from the last sync, and was written in these ranges since.
pub record IsKept (d : Device) (bytes : List ℕ) (size : ℕ) (written : List ByteRange) : Type 0 where
  pub seen : d.seen ≡ bytes
  pub synced : length d.synced ≡ size
  pub ranges : d.ranges ≡ written
  pub sound : IsSound d
