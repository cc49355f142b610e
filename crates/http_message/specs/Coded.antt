-- Internal. What taking a chunked body answers, and what each step of it does.
use Rattle.std.specs.Prelude.{◌≡◌, ℕ, Bool, ◌+◌, ◌<◌, ◌≤◌, List, [], ◌++◌, length, take}
use Rattle.std.specs.Str.{bytes_eq}
use Rattle.httparse.specs.Ascii.{crlf_bytes}
use Rattle.http_message.specs.Coding.{Decodes, Outcome, Decoded, Broken, Unfinished, behind, Whole, IsSizeLine, line_at}
use Rattle.http_message.specs.Limits.{body_limit, coding_limit}
use Rattle.http_message.specs.declared.chunk.Part.{Part}
use Rattle.http_message.specs.declared.chunk.Part.TheVariants as part
use Rattle.http_message.specs.declared.chunk.Progress.{Progress}
use Rattle.http_message.specs.declared.coding.Coded.{Coded}
use Rattle.http_message.specs.declared.coding.Coded.TheVariants as coded

-- the coding and its body are within their limits
pub record IsProgress (at : Progress) : Type 0 where
  pub coded : at.coded ≤ coding_limit
  pub got : at.got ≤ body_limit

-- the bytes are cut short, after `coded` bytes of a coding and `got` bytes of its body
abbrev pub IsCutShort : (coded got : ℕ) → List ℕ → Type 0
IsCutShort coded got bytes = Decodes coded got bytes Unfinished

-- After `coded` bytes of a coding and `got` bytes of its body, the bytes have this outcome. With them
-- the coding has `total` bytes.
pub record ComesOut (coded got total : ℕ) (outcome : Outcome) (bytes : List ℕ) : Type 0 where
  pub decodes : Decodes coded got bytes outcome
  pub total_is : total ≡ coded + length bytes

-- by the answer of `take_coded`
abbrev pub IsCoded : (body : List ℕ) → Coded → List ℕ → Type 0
IsCoded body (coded.Whole size total) bytes =
    (size ≤ body_limit) × ComesOut 0 0 total (Decoded (take size body)) bytes
IsCoded body (coded.Broken refused total) bytes = ComesOut 0 0 total (Broken refused) bytes

-- The bytes are a chunk, and its content is in the body after that of the chunks before.
pub record IsChunk (at next : Progress) (body body' bytes : List ℕ) : Type 0 where
  pub content : List ℕ
  pub decodes : (rest : List ℕ) (outcome : Outcome) → Decodes next.coded next.got rest outcome
      → Decodes at.coded at.got (bytes ++ rest) (behind content outcome)
  pub content_is : take next.got body' ≡ take at.got body ++ content
  pub further : at.coded < next.coded
  pub coded_is : next.coded ≡ at.coded + length bytes
  pub limits : IsProgress next

-- by the answer of `take_part`
abbrev pub IsPart : Progress → (body body' : List ℕ) → Part → List ℕ → Type 0
IsPart at body body' (part.Chunk next) bytes = IsChunk at next body body' bytes
IsPart at body body' (part.End total) bytes =
    ComesOut at.coded at.got total (Decoded []) bytes × (body' ≡ body)
IsPart at body body' (part.Broken refused total) bytes = ComesOut at.coded at.got total (Broken refused) bytes

-- the text is the next line after `coded` bytes of a coding, whatever follows it
pub record IsLineHere (coded : ℕ) (text : List ℕ) : Type 0 where
  pub all : (more : List ℕ) → line_at coded (text ++ more) ≡ Whole text
  pub some : 0 < length text
  pub limit : coded + length text ≤ coding_limit

-- There are two bytes, and they are CR LF where the answer says so.
pub record IsLineEnd (whole : Bool) (bytes : List ℕ) : Type 0 where
  pub two : length bytes ≡ 2
  pub whole_is : whole ≡ bytes_eq bytes crlf_bytes

-- The bytes are this content and two more, which are CR LF where the answer says so.
pub record IsContent (content : List ℕ) (whole : Bool) (bytes : List ℕ) : Type 0 where
  pub end : List ℕ
  pub bytes_are : bytes ≡ content ++ end
  pub is : IsLineEnd whole end

-- after the last line, which ends at byte `coded` of the coding, the bytes have this outcome
abbrev pub EndsCoding : ℕ → List ℕ → Outcome → Type 0
EndsCoding coded bytes outcome =
    (start got : ℕ) (line : List ℕ) → IsLineHere start line → IsSizeLine line 0 → coded ≡ start + length line
    → Decodes start got (line ++ bytes) outcome

-- The bytes after the last line have this outcome, and the coding has `total` bytes with them.
pub record ConcludesSo (coded total : ℕ) (outcome : Outcome) (bytes : List ℕ) : Type 0 where
  pub total_is : total ≡ coded + length bytes
  pub ends : EndsCoding coded bytes outcome

-- by the answer of `take_trailers`
abbrev pub IsEnding : ℕ → Part → List ℕ → Type 0
IsEnding coded (part.Chunk next) bytes = ⊥
IsEnding coded (part.End total) bytes = ConcludesSo coded total (Decoded []) bytes
IsEnding coded (part.Broken refused total) bytes = ConcludesSo coded total (Broken refused) bytes
