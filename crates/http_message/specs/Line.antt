-- Internal. The search for a line of a chunk or for trailers, in the bytes that have come.
use Rattle.std.specs.Prelude.{◌≡◌, ℕ, ◌+◌, ◌<◌, ◌≤◌, nat_le, List, ◌++◌, length, take, drop, Option, Some, None, option_map, Result, Ok, Err}
use Rattle.q_outside.specs.Ends.{End}
use Rattle.http_message.specs.Coding.{Cut, cut_by, line_length, trailers_length}
use Rattle.http_message.specs.Input.{NoMoreBytes}
use Rattle.http_message.specs.HeadScan.{Passes}
use Rattle.http_message.specs.declared.line.Sought.{Sought}
use Rattle.http_message.specs.declared.line.Sought.TheVariants.{Line, Trailers}
use Rattle.http_message.specs.declared.line.TextFound.{TextFound}
use Rattle.http_message.specs.declared.line.TextFound.TheVariants.{Whole, Overlong}
use Rattle.http_message.specs.declared.scan.TextEnd.{TextEnd}
use Rattle.http_message.specs.declared.scan.TextEnd.TheVariants.{At, Behind}
use Rattle.http_message.specs.declared.incomplete.Incomplete.{Incomplete}

-- the length of what is looked for, where it is whole
abbrev pub length_of : Sought → List ℕ → Option ℕ
length_of Line bytes = line_length bytes
length_of Trailers bytes = trailers_length bytes

-- what the bytes begin with, where at most `most` of them count
abbrev pub text_at : Sought → ℕ → List ℕ → Cut
text_at sought most bytes = cut_by (length_of sought (take most bytes)) (nat_le most (length bytes)) bytes

-- no line ends among the first `size` bytes, whatever follows
pub record PassesLine (bytes : List ℕ) (size : ℕ) : Type 0 where
  pub all : (more : List ℕ)
      → line_length (bytes ++ more) ≡ option_map (λ n. size + n) (line_length (drop size bytes ++ more))
  pub fits : size ≤ length bytes

-- what is looked for does not end among the first `size` bytes
abbrev pub IsPassed : Sought → List ℕ → ℕ → Type 0
IsPassed Line bytes size = PassesLine bytes size
IsPassed Trailers bytes size = Passes bytes size

-- where it ends, or that it does not yet
abbrev pub IsEndOf : Sought → List ℕ → TextEnd → Type 0
IsEndOf sought bytes (At size) = length_of sought bytes ≡ Some size
IsEndOf sought bytes (Behind passed) = (length_of sought bytes ≡ None) × IsPassed sought bytes passed

-- It ends within its limit.
pub record EndsIn (sought : Sought) (most : ℕ) (bytes : List ℕ) (size : ℕ) : Type 0 where
  pub at : length_of sought (take most bytes) ≡ Some size

-- It does not, and the bytes reach its limit.
pub record Overruns (sought : Sought) (most : ℕ) (bytes : List ℕ) : Type 0 where
  pub none : length_of sought (take most bytes) ≡ None
  pub full : most ≤ length bytes

-- It does not yet, and more bytes are needed.
pub record IsOpenIn (sought : Sought) (most : ℕ) (bytes : List ℕ) : Type 0 where
  pub none : length_of sought (take most bytes) ≡ None
  pub short : length bytes < most

-- what was found
abbrev pub IsText : Sought → ℕ → List ℕ → TextFound → Type 0
IsText sought most bytes (Whole size) = EndsIn sought most bytes size
IsText sought most bytes Overlong = Overruns sought most bytes

-- what a look at the bytes shows: what was found, or that more bytes decide, and what was passed
abbrev pub IsSight : Sought → ℕ → List ℕ → Result TextFound ℕ → Type 0
IsSight sought most bytes (Ok found) = IsText sought most bytes found
IsSight sought most bytes (Err passed) = IsOpenIn sought most bytes × IsPassed sought (take most bytes) passed

-- what was found, or why no more bytes came
abbrev pub IsTextFound : (source source' : End) → Sought → ℕ → List ℕ → Result TextFound Incomplete → Type 0
IsTextFound source source' sought most held (Ok found) = IsText sought most held found
IsTextFound source source' sought most held (Err incomplete) = IsOpenIn sought most held × NoMoreBytes source source' incomplete
