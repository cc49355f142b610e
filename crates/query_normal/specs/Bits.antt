-- Internal. The bits of bytes: bit j is bit `j mod 8`, the least first, of byte `j / 8`.
use Rattle.std.specs.Prelude.{ℕ, ◌*◌, ◌/◌, ◌%◌, ◌==◌, Bool, List, length, map, slice_index}
use Rattle.std.specs.List.{range_with_len}
use Rattle.std.specs.Int.{bit_at}

-- whether bit j is set
abbrev pub is_bit_set : List ℕ → ℕ → Bool
is_bit_set bytes j = bit_at (slice_index bytes (j / 8)) (j % 8) == 1

-- the bits, eight of each byte
unfoldable pub flat_bits : List ℕ → List Bool
flat_bits bytes = map (is_bit_set bytes) (range_with_len 0 (8 * length bytes))
