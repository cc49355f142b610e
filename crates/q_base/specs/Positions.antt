-- Believed. The positions of a text among 2 ^ log2_bits bits of a Bloom filter (Bloom 1970).
use Rattle.std.specs.Prelude.{ℕ, ◌+◌, ◌*◌, ◌%◌, ◌^◌, List, take, drop, map}
use Rattle.std.specs.List.{range_with_len}
use Rattle.std.specs.Int.{w64, from_be_bytes}
use Rattle.sha2.specs.Sha256.{sha256}

-- the first eight bytes of the text's SHA-256 (FIPS 180-4) as a number, the high byte first
abbrev pub first_hash : List ℕ → ℕ
first_hash text = from_be_bytes w64 (take 8 (sha256 text))

-- its second eight bytes as a number, the high byte first
abbrev pub second_hash : List ℕ → ℕ
second_hash text = from_be_bytes w64 (take 8 (drop 8 (sha256 text)))

-- position i, from the two hashes (double hashing, Kirsch and Mitzenmacher 2006)
abbrev pub position : ℕ → ℕ → ℕ → ℕ → ℕ
position log2_bits h1 h2 i = ((h1 + i * h2) % 2 ^ 64) % 2 ^ log2_bits

-- the positions of a text, one for each hash; a position may repeat
unfoldable pub positions_of : List ℕ → ℕ → ℕ → List ℕ
positions_of text log2_bits hashes = map (position log2_bits (first_hash text) (second_hash text)) (range_with_len 0 hashes)
