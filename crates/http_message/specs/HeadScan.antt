-- Internal. What a search for the end of a head knows, whatever bytes follow.
use Rattle.std.specs.Prelude.{◌≡◌, ℕ, ◌+◌, ◌<◌, ◌≤◌, List, [], ◌∷◌, ◌++◌, length, drop, slice_index, Some, None, option_map, ◌⊎◌}
use Rattle.httparse.specs.Ascii.{line_feed, carriage_return}
use Rattle.http_message.specs.Text.{empty_line, empty_lines_at_start, head_length}
use Rattle.http_message.specs.declared.scan.HeadScan.{HeadScan}
use Rattle.http_message.specs.declared.scan.TextEnd.{TextEnd}
use Rattle.http_message.specs.declared.scan.TextEnd.TheVariants.{At, Behind}

-- the empty line at the start has this length, whatever follows
pub record IsLine (rest : List ℕ) (size : ℕ) : Type 0 where
  pub all : (more : List ℕ) → empty_line (rest ++ more) ≡ size
  pub fits : size ≤ length rest

-- the next byte decides whether the bytes begin with an empty line
pub record IsCut (rest : List ℕ) : Type 0 where
  pub cut : (rest ≡ []) ⊎ (rest ≡ carriage_return ∷ [])

-- the first `size` bytes are empty lines, whatever follows
pub record Skips (bytes : List ℕ) (size : ℕ) : Type 0 where
  pub all : (more : List ℕ)
      → empty_lines_at_start (bytes ++ more) ≡ size + empty_lines_at_start (drop size bytes ++ more)
  pub fits : size ≤ length bytes

-- no head ends by a line feed among the first `size` bytes, whatever follows
pub record Passes (bytes : List ℕ) (size : ℕ) : Type 0 where
  pub all : (more : List ℕ)
      → head_length (bytes ++ more) ≡ option_map (λ n. size + n) (head_length (drop size bytes ++ more))
  pub fits : size ≤ length bytes

-- what is known of the bytes that were looked at
pub record IsScanned (bytes : List ℕ) (scan : HeadScan) : Type 0 where
  pub skips : Skips bytes scan.empty_lines
  pub passes : Passes (drop scan.empty_lines bytes) scan.passed

-- the first line feed after those that were passed
pub record IsFeed (bytes : List ℕ) (feed : ℕ) : Type 0 where
  pub passes : Passes bytes feed
  pub below : feed < length bytes
  pub is : slice_index bytes feed ≡ line_feed

-- where a head ends, or that it does not yet
abbrev pub IsEnd : List ℕ → TextEnd → Type 0
IsEnd bytes (At size) = head_length bytes ≡ Some size
IsEnd bytes (Behind passed) = (head_length bytes ≡ None) × Passes bytes passed
