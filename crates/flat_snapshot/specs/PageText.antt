-- Believed. The text of a page, format 1.
use Rattle.std.specs.Prelude.{◌≡◌, ℕ, ◌+◌, ◌*◌, ◌/◌, ◌^◌, ◌<◌, ◌≤◌, Bool, false, if◌then◌else◌, List, [], ◌∷◌, ◌++◌, length, map, take, drop, replicate, codes}
use Rattle.std.specs.List.{range_with_len}
use Rattle.std.specs.Int.{w64, to_be_bytes}
use Rattle.query_normal.specs.Bits.{flat_bits}
use Rattle.q_base.specs.Moment.{greatest_moment}
use Rattle.query_normal.specs.Pages.{Page, least_log2_bits, most_log2_bits, fewest_hashes, most_hashes}

-- bits as a number, the lowest first
abbrev pub number_of : List Bool → ℕ
number_of [] = 0
number_of (bit ∷ bits) = (if bit then 1 else 0) + 2 * number_of bits

-- the bytes of bits, eight bits each
unfoldable pub bytes_of : List Bool → List ℕ
bytes_of bits = map (λ b. number_of (take 8 (drop (8 * b) bits))) (range_with_len 0 (length bits / 8))

-- `QSF1`, the hashes, the size exponent, the front, the commits and the moment, the high bytes first
unfoldable pub head_text : ℕ → ℕ → ℕ → ℕ → ℕ → List ℕ
head_text log2_bits hashes front commits moment =
    codes "QSF1" ++ hashes ∷ log2_bits ∷ [] ++ to_be_bytes w64 front ++ to_be_bytes w64 commits ++ to_be_bytes w64 moment

-- the head and the bits
abbrev pub page_text : Page → List ℕ
page_text page = head_text page.log2_bits page.hashes page.front page.commits page.moment ++ bytes_of page.bits

-- the number of bytes of a head
abbrev pub head_bytes : ℕ
head_bytes = 30

-- a page within its limits
pub record IsPage (page : Page) : Type 0 where
  pub hashed : fewest_hashes ≤ page.hashes
  pub few_hashes : page.hashes ≤ most_hashes
  pub least_bits : least_log2_bits ≤ page.log2_bits
  pub most_bits : page.log2_bits ≤ most_log2_bits
  pub covered : page.front ≤ page.commits
  pub commits : page.commits < 2 ^ 64
  pub moment : page.moment ≤ greatest_moment
  pub bits : length page.bits ≡ 2 ^ page.log2_bits

-- the page with these bytes as its bits
abbrev pub page_with : ℕ → ℕ → ℕ → ℕ → ℕ → List ℕ → Page
page_with log2_bits hashes front commits moment bytes = record {
  log2_bits = log2_bits;
  hashes = hashes;
  front = front;
  commits = commits;
  moment = moment;
  bits = flat_bits bytes;
}

-- a page without any bit
abbrev pub blank_page : ℕ → ℕ → ℕ → ℕ → ℕ → Page
blank_page log2_bits hashes front commits moment = record {
  log2_bits = log2_bits;
  hashes = hashes;
  front = front;
  commits = commits;
  moment = moment;
  bits = replicate (2 ^ log2_bits) false;
}
