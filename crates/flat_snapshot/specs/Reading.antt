-- Internal. Bytes as a page, or the first reason why they are none.
use Rattle.std.specs.Prelude.{ℕ, ◌+◌, ◌/◌, ◌^◌, ◌==◌, not, ◌&&◌, if◌then◌else◌, nat_le, nat_lt, List, length, take, drop, slice_index, bytes_eq, codes, Option, Some, None, Result, Ok, Err}
use Rattle.std.specs.Int.{w64, from_be_bytes}
use Rattle.q_base.specs.Moment.{greatest_moment}
use Rattle.query_normal.specs.Pages.{Page, least_log2_bits, most_log2_bits, fewest_hashes, most_hashes}
use Rattle.flat_snapshot.specs.declared.read.PageRefusal.{PageRefusal}
use Rattle.flat_snapshot.specs.declared.read.PageRefusal.TheVariants.{BadSize, BadMark, BadField}
use Rattle.flat_snapshot.specs.PageText.{head_bytes, page_with}

-- eight bytes from an offset on as a number, the high byte first
abbrev pub word_at : List ℕ → ℕ → ℕ
word_at bytes offset = from_be_bytes w64 (take 8 (drop offset bytes))

-- the page of bytes that are the text of one
abbrev pub page_in : List ℕ → Page
page_in bytes = page_with (slice_index bytes 5) (slice_index bytes 4) (word_at bytes 6) (word_at bytes 14) (word_at bytes 22) (drop head_bytes bytes)

-- the offset of the first field outside its limits: the hashes, the size exponent, a front above the commits, a moment above the greatest
abbrev pub first_bad_field : ℕ → ℕ → ℕ → ℕ → ℕ → Option ℕ
first_bad_field log2_bits hashes front commits moment =
    if not (nat_le fewest_hashes hashes && nat_le hashes most_hashes) then Some 4
    else (if not (nat_le least_log2_bits log2_bits && nat_le log2_bits most_log2_bits) then Some 5
    else (if nat_lt commits front then Some 6 else (if nat_lt greatest_moment moment then Some 22 else None)))

-- the offset of the first such field in the head of these bytes
abbrev pub bad_field_in : List ℕ → Option ℕ
bad_field_in bytes = first_bad_field (slice_index bytes 5) (slice_index bytes 4) (word_at bytes 6) (word_at bytes 14) (word_at bytes 22)

-- the number of bytes of a page of 2 ^ log2_bits bits
abbrev pub size_of : ℕ → ℕ
size_of log2_bits = head_bytes + 2 ^ log2_bits / 8

-- a head within its limits determines the number of bytes
abbrev pub read_sized : List ℕ → Option ℕ → Result Page PageRefusal
read_sized bytes (Some offset) = Err (BadField offset)
read_sized bytes None =
    if length bytes == size_of (slice_index bytes 5) then Ok (page_in bytes) else Err (BadSize (size_of (slice_index bytes 5)) (length bytes))

-- bytes as a page, or the first reason why they are none
abbrev pub read_page : List ℕ → Result Page PageRefusal
read_page bytes =
    if nat_lt (length bytes) head_bytes then Err (BadSize head_bytes (length bytes))
    else (if not (bytes_eq (take 4 bytes) (codes "QSF1")) then Err BadMark else read_sized bytes (bad_field_in bytes))
