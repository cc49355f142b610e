-- Internal. Which places are in a range.
use Rattle.std.specs.Prelude.{ℕ, ◌+◌, Bool, ◌&&◌, nat_le, nat_lt}
use Rattle.disks.specs.declared.range.ByteRange.{ByteRange}

-- the place is in the range
abbrev pub is_in : ℕ → ByteRange → Bool
is_in place range = nat_le range.start place && nat_lt place (range.start + range.size)
