-- Internal. How many segments a path has.
use Rattle.std.specs.Prelude.{◌≤◌, length, List, ℕ}
use Rattle.q_doc.specs.Limits.{most_segments}

-- one segment at least, and no more than the limit
abbrev pub IsPath : List (List ℕ) → Type 0
IsPath segments = (1 ≤ length segments) × (length segments ≤ most_segments)
