-- Believed. The chunked coding of a body (RFC 9112, section 7.1), in a stream of bytes.
use Rattle.std.specs.Prelude.{◌≡◌, ◌≢◌, ℕ, ◌+◌, ◌-◌, ◌<◌, ◌≤◌, min, Bool, true, false, nat_le, nat_lt, if◌then◌else◌, ◌==◌, ◌&&◌, List, [], ◌∷◌, ◌++◌, length, take, Option, Some, None, option_map, suc}
use Rattle.httparse.specs.Ascii.{line_feed, crlf_bytes}
use Rattle.httparse.specs.Grammar.{ChunkLine, ReadsChunkLine, chunk_size, Field, LineEnd, ReadsSection}
use Rattle.http_message.specs.Limits.{line_limit, coding_limit, trailer_capacity, body_limit}
use Rattle.http_message.specs.Text.{empty_line, head_length}
use Rattle.http_message.specs.declared.refusal.FramingRefusal.{FramingRefusal}
use Rattle.http_message.specs.declared.refusal.FramingRefusal.TheVariants.{BadLength, BodyTooLarge}

-- the length up to and with the first LF
abbrev pub line_length : List ℕ → Option ℕ
line_length [] = None
line_length (byte ∷ bytes) = if byte == line_feed then Some 1 else option_map suc (line_length bytes)

-- the length of the trailers: that of an empty line at the start, else up to and with the first empty line
abbrev pub trailers_length : List ℕ → Option ℕ
trailers_length bytes = if nat_lt 0 (empty_line bytes) then Some (empty_line bytes) else head_length bytes

-- What a stream begins with, in which a text is looked for.
pub data Cut : Type 0 where
  -- the text, whole
  Whole : (text : List ℕ) → Cut
  -- the text does not end within its limit
  Overlong : Cut
  -- more bytes decide
  Short : Cut

-- the longest line, or the longest trailers, after this number of bytes of a coding
abbrev pub capacity_behind : ℕ → ℕ
capacity_behind coded = min line_limit (coding_limit - coded)

-- by the length of the text that was found within the limit, and whether the bytes reach the limit
abbrev pub cut_by : Option ℕ → Bool → List ℕ → Cut
cut_by (Some size) full bytes = Whole (take size bytes)
cut_by None true bytes = Overlong
cut_by None false bytes = Short

-- the line that the bytes begin with, after this number of bytes of the coding
unfoldable pub line_at : ℕ → List ℕ → Cut
line_at coded bytes =
    cut_by (line_length (take (capacity_behind coded) bytes)) (nat_le (capacity_behind coded) (length bytes)) bytes

-- the trailers that the bytes begin with, after this number of bytes of the coding
unfoldable pub trailers_at : ℕ → List ℕ → Cut
trailers_at coded bytes =
    cut_by (trailers_length (take (capacity_behind coded) bytes)) (nat_le (capacity_behind coded) (length bytes)) bytes

-- Why a text that does not end within its limit is refused: it is too long itself, or the coding is.
abbrev pub overlong_at : ℕ → FramingRefusal
overlong_at coded = if nat_le line_limit (coding_limit - coded) then BadLength else BodyTooLarge

-- the whole text is the line of a chunk of this size
pub record IsSizeLine (text : List ℕ) (size : ℕ) : Type 0 where
  pub line : ChunkLine
  pub reads : ReadsChunkLine text line []
  pub size_is : chunk_size line ≡ size

-- the whole text is no line of a chunk
pub record IsNoLine (text : List ℕ) : Type 0 where
  pub none : (line : ChunkLine) → ¬ (ReadsChunkLine text line [])

-- the whole text is trailers: fields, not more than fit into the buffer, and an empty line
pub record AreTrailers (text : List ℕ) : Type 0 where
  pub fields : List Field
  pub end : LineEnd
  pub reads : ReadsSection text fields end []
  pub few : length fields ≤ trailer_capacity

-- the whole text is none
pub record AreNoTrailers (text : List ℕ) : Type 0 where
  pub none : AreTrailers text → ⊥

-- A chunk of this size fits after `coded` bytes of the coding, `got` bytes of the body, and its line.
abbrev pub fits : ℕ → ℕ → ℕ → ℕ → Bool
fits coded got line size = nat_le (got + size) body_limit && nat_le (coded + line + size + 2) coding_limit

-- How a coding comes out.
pub data Outcome : Type 0 where
  -- its end has come, and this is the body
  Decoded : (body : List ℕ) → Outcome
  -- it is refused
  Broken : (refused : FramingRefusal) → Outcome
  -- more bytes decide
  Unfinished : Outcome

-- the outcome of a chunk's content and of what follows it
abbrev pub behind : List ℕ → Outcome → Outcome
behind content (Decoded body) = Decoded (content ++ body)
behind content (Broken refused) = Broken refused
behind content Unfinished = Unfinished

-- After `coded` bytes of a coding and `got` bytes of its body, just these bytes have this outcome.
pub data Decodes : (coded got : ℕ) → (bytes : List ℕ) → Outcome → Type 0 where
  -- a chunk, and what follows it
  chunk : (coded got size : ℕ) (line content rest : List ℕ) (outcome : Outcome)
      → line_at coded (line ++ (content ++ (crlf_bytes ++ rest))) ≡ Whole line → IsSizeLine line size → 0 < size
      → fits coded got (length line) size ≡ true → length content ≡ size
      → Decodes (coded + length line + size + 2) (got + size) rest outcome
      → Decodes coded got (line ++ (content ++ (crlf_bytes ++ rest))) (behind content outcome)
  -- the last line, and the trailers, which are dropped
  last : (coded got : ℕ) (line trailers : List ℕ)
      → line_at coded (line ++ trailers) ≡ Whole line → IsSizeLine line 0
      → trailers_at (coded + length line) trailers ≡ Whole trailers → AreTrailers trailers
      → Decodes coded got (line ++ trailers) (Decoded [])
  -- a line that is none
  bad_line : (coded got : ℕ) (line : List ℕ) → line_at coded line ≡ Whole line → IsNoLine line
      → Decodes coded got line (Broken BadLength)
  -- a line that is too long
  long_line : (coded got : ℕ) (bytes : List ℕ) → line_at coded bytes ≡ Overlong → length bytes ≡ capacity_behind coded
      → Decodes coded got bytes (Broken (overlong_at coded))
  -- a chunk that does not fit
  large : (coded got size : ℕ) (line : List ℕ) → line_at coded line ≡ Whole line → IsSizeLine line size → 0 < size
      → fits coded got (length line) size ≡ false → Decodes coded got line (Broken BodyTooLarge)
  -- a chunk that other bytes than CR LF follow
  bad_end : (coded got size : ℕ) (line content end : List ℕ)
      → line_at coded (line ++ (content ++ end)) ≡ Whole line → IsSizeLine line size → 0 < size
      → fits coded got (length line) size ≡ true → length content ≡ size → length end ≡ 2 → end ≢ crlf_bytes
      → Decodes coded got (line ++ (content ++ end)) (Broken BadLength)
  -- trailers that are none
  bad_trailers : (coded got : ℕ) (line trailers : List ℕ)
      → line_at coded (line ++ trailers) ≡ Whole line → IsSizeLine line 0
      → trailers_at (coded + length line) trailers ≡ Whole trailers → AreNoTrailers trailers
      → Decodes coded got (line ++ trailers) (Broken BadLength)
  -- trailers that are too long
  long_trailers : (coded got : ℕ) (line bytes : List ℕ)
      → line_at coded (line ++ bytes) ≡ Whole line → IsSizeLine line 0
      → trailers_at (coded + length line) bytes ≡ Overlong → length bytes ≡ capacity_behind (coded + length line)
      → Decodes coded got (line ++ bytes) (Broken (overlong_at (coded + length line)))
  -- a line, a chunk or trailers that are cut short
  short_line : (coded got : ℕ) (bytes : List ℕ) → line_at coded bytes ≡ Short → Decodes coded got bytes Unfinished
  short_chunk : (coded got size : ℕ) (line bytes : List ℕ)
      → line_at coded (line ++ bytes) ≡ Whole line → IsSizeLine line size → 0 < size
      → fits coded got (length line) size ≡ true → length bytes < size + 2
      → Decodes coded got (line ++ bytes) Unfinished
  short_trailers : (coded got : ℕ) (line bytes : List ℕ)
      → line_at coded (line ++ bytes) ≡ Whole line → IsSizeLine line 0
      → trailers_at (coded + length line) bytes ≡ Short → Decodes coded got (line ++ bytes) Unfinished
