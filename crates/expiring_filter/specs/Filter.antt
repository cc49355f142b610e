-- Internal. What contracts see of a filter: keys, each with the second at which it expires.
use Rattle.std.specs.Prelude.{◌≡◌, ℕ, ◌^◌, Bool, true, false, nat_lt, List, [], ◌++◌, map, All}
use Rattle.std.specs.List.{list_any, range_with_len}
use Rattle.std.specs.List.Sorted.{IsPermutation}
use Rattle.query_normal.specs.declared.key.KeyShape.{KeyShape}
use Rattle.query_normal.specs.Keys.{same_key}
use Rattle.expiring_filter.specs.Held.{count_among, is_among}

-- the exponent of the number of bits, the number of hashes, the held keys, each once, and the reserved keys
pub record Filter : Type 0 where
  pub log2_bits : ℕ
  pub hashes : ℕ
  pub held : List (KeyShape × ℕ)
  pub reserved : List KeyShape

-- a filter without keys
abbrev pub empty_filter : ℕ → ℕ → Filter
empty_filter log2_bits hashes = record {
  log2_bits = log2_bits;
  hashes = hashes;
  held = [];
  reserved = [];
}

-- whether a key is held
abbrev pub is_held : Filter → KeyShape → Bool
is_held filter key = is_among filter.held key

-- whether a key is reserved
abbrev pub is_reserved : Filter → KeyShape → Bool
is_reserved filter key = list_any (same_key key) filter.reserved

-- the number of times that a position is among those of the held keys, with repetitions
abbrev pub count_of : Filter → ℕ → ℕ
count_of filter j = count_among filter.log2_bits filter.hashes filter.held j

-- a bit for each position, set where the count is above 0
abbrev pub bits_of : Filter → List Bool
bits_of filter = map (λ j. nat_lt 0 (count_of filter j)) (range_with_len 0 (2 ^ filter.log2_bits))

-- the key was removed, and no other
pub record Removes (key : KeyShape) (old new : List (KeyShape × ℕ)) : Type 0 where
  pub gone : List (KeyShape × ℕ)
  pub parted : IsPermutation old (gone ++ new)
  pub same : All (λ e. same_key key e.0 ≡ true) gone
  pub others : All (λ e. same_key key e.0 ≡ false) new
