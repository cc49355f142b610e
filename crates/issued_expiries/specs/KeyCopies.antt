-- Internal. The copies of one key: each has the commit at which it was read and the second at which it expires.
use Rattle.std.specs.Prelude.{◌≡◌, ℕ, ◌+◌, ◌*◌, ◌<◌, ◌≤◌, Bool, true, max, nat_lt, if◌then◌else◌, List, [], ◌∷◌, length, slice_index}
use Rattle.issued_expiries.specs.Maxima.{IsMaxima}

-- the kept copies of a key, and the number of copies that there is space for
pub record KeptCopies : Type 0 where
  pub copies : List (ℕ × ℕ)
  pub capacity : ℕ

-- there is space for one more copy
abbrev pub HasSpace : KeptCopies → Type 0
HasSpace kept = length kept.copies < kept.capacity

-- the greatest until of the copies whose commits pass a test, or 0 without one
abbrev pub greatest : (ℕ → Bool) → List (ℕ × ℕ) → ℕ
greatest test [] = 0
greatest test (copy ∷ copies) = if test copy.0 then max copy.1 (greatest test copies) else greatest test copies

-- the greatest until of all
abbrev pub last_until : KeptCopies → ℕ
last_until kept = greatest (λ _. true) kept.copies

-- a copy expires later than the clock
abbrev pub is_later : ℕ → ℕ × ℕ → Bool
is_later clock copy = nat_lt clock copy.1

-- commits, each with the number at the same index of a list from a start on
abbrev pub paired : List ℕ → List ℕ → ℕ → List (ℕ × ℕ)
paired [] numbers start = []
paired (commit ∷ commits) numbers start = (commit, slice_index numbers start) ∷ paired commits numbers (start + 1)

-- numbers that rise
abbrev pub IsRising : List ℕ → Type 0
IsRising xs = (i j : ℕ) → i < j → j < length xs → slice_index xs i < slice_index xs j

-- the index at which to insert a commit: after those below it and before those above it
pub record IsIndexFor (commit : ℕ) (commits : List ℕ) (index : ℕ) : Type 0 where
  pub within : index ≤ length commits
  pub below : (i : ℕ) → i < index → slice_index commits i < commit
  pub above : (i : ℕ) → index ≤ i → i < length commits → commit < slice_index commits i

-- rising commits, each of which has a number in the row of a tree of maxima
pub record IsOver (capacity : ℕ) (commits tree : List ℕ) : Type 0 where
  pub maxima : IsMaxima tree
  pub sized : length tree ≡ 2 * capacity
  pub rising : IsRising commits
  pub fits : length commits ≤ capacity
