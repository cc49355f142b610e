-- Internal. The calls that change a disk, what it then holds, and what a crash may leave of it.
use Rattle.std.specs.Prelude.{◌≡◌, ℕ, ◌+◌, ◌<◌, ◌≤◌, max, Bool, false, ◌||◌, nat_le, List, [], ◌∷◌, ◌++◌, length, take, drop, slice_index, if◌then◌else◌}
use Rattle.std.specs.List.{list_any}
use Rattle.disks.specs.declared.range.ByteRange.{ByteRange}
use Rattle.disks.specs.Ranges.{is_in}

-- A call that changed a disk. A sync that failed is no such call.
pub data DiskCall : Type 0 where
  -- these bytes were written from this place on
  Wrote : (place : ℕ) (bytes : List ℕ) → DiskCall
  -- writing these bytes failed, and reads give `left` from then on
  Tore : (place : ℕ) (bytes left : List ℕ) → DiskCall
  -- all that was written is stored
  Synced : DiskCall

-- A disk between two calls.
pub record Device : Type 0 where
  -- what reads give
  pub seen : List ℕ
  -- what reads gave at the last sync
  pub synced : List ℕ
  -- where writes went since then
  pub ranges : List ByteRange
  -- the greatest length since then
  pub limit : ℕ

-- nothing was written since the last sync
abbrev pub at_rest : List ℕ → Device
at_rest bytes = record { seen = bytes; synced = bytes; ranges = []; limit = length bytes }

-- bytes with others in their place from a place on
abbrev pub over : List ℕ → ℕ → List ℕ → List ℕ
over old place bytes = take place old ++ bytes ++ drop (place + length bytes) old

-- a disk after one call more
abbrev pub after_call : DiskCall → Device → Device
after_call (Wrote place bytes) d = record {
  seen = over d.seen place bytes;
  synced = d.synced;
  ranges = record { start = place; size = length bytes } ∷ d.ranges;
  limit = max d.limit (place + length bytes);
}
after_call (Tore place bytes left) d = record {
  seen = left;
  synced = d.synced;
  ranges = record { start = place; size = length bytes } ∷ d.ranges;
  limit = max d.limit (place + length bytes);
}
after_call Synced d = at_rest d.seen

-- a disk that held these bytes at rest, after calls, of which the newest is first
abbrev pub device : List ℕ → List DiskCall → Device
device start [] = at_rest start
device start (call ∷ earlier) = after_call call (device start earlier)

-- the byte at the place may be any after a crash: it is past what was synced, or was written since
abbrev pub is_open_by : ℕ → List ByteRange → ℕ → Bool
is_open_by synced ranges place = nat_le synced place || list_any (is_in place) ranges

-- the byte at the place may be any after a crash of the disk
abbrev pub is_open : Device → ℕ → Bool
is_open d place = is_open_by (length d.synced) d.ranges place

-- What a crash may leave of a disk: any byte in a range and past the synced length, and any length from that one to the greatest.
pub record MayLeave (d : Device) (image : List ℕ) : Type 0 where
  pub no_shorter : length d.synced ≤ length image
  pub no_longer : length image ≤ d.limit
  pub same : (i : ℕ) → i < length d.synced → list_any (is_in i) d.ranges ≡ false → slice_index image i ≡ slice_index d.synced i

-- What a write that failed may leave for reads: any byte in its range, and any length from the old one to the new one.
pub record IsTorn (place : ℕ) (bytes old left : List ℕ) : Type 0 where
  pub no_shorter : length old ≤ length left
  pub no_longer : length left ≤ max (length old) (place + length bytes)
  pub same : (i : ℕ) → i < length old → is_in i (record { start = place; size = length bytes }) ≡ false → slice_index left i ≡ slice_index old i

-- bytes from a place on, of which those that are open have the drawn bytes in order of places; where no draw is left, they stay
abbrev pub drawn : (ℕ → Bool) → ℕ → List ℕ → List ℕ → List ℕ
drawn opens place [] draws = []
drawn opens place (byte ∷ bytes) [] = byte ∷ bytes
drawn opens place (byte ∷ bytes) (draw ∷ draws) =
    if opens place then draw ∷ drawn opens (place + 1) bytes draws else byte ∷ drawn opens (place + 1) bytes (draw ∷ draws)

-- a disk's present bytes, with draws for those that may be any
abbrev pub crashed : Device → List ℕ → List ℕ
crashed d draws = drawn (is_open d) 0 d.seen draws
