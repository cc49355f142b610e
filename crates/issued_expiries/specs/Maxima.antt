-- Internal. A segment tree of maxima over a row of numbers.
use Rattle.std.specs.Prelude.{◌≡◌, ◌≢◌, ℕ, ◌+◌, ◌*◌, ◌%◌, ◌<◌, ◌≤◌, max, List, length, slice_index}

-- each index of the tree from one on, but one, has the greater of the two numbers that it covers
pub record IsMaximaBut (first gap : ℕ) (tree : List ℕ) : Type 0 where
  pub even : length tree % 2 ≡ 0
  pub greater : (i : ℕ) → first ≤ i → 2 * i + 1 < length tree → i ≢ gap → slice_index tree i ≡ max (slice_index tree (2 * i)) (slice_index tree (2 * i + 1))

-- each index of the tree from one on
abbrev pub IsMaximaFrom : ℕ → List ℕ → Type 0
IsMaximaFrom first tree = IsMaximaBut first 0 tree

-- each index of the tree
abbrev pub IsMaxima : List ℕ → Type 0
IsMaxima tree = IsMaximaFrom 1 tree

-- no number from an index up to another is greater than n
abbrev pub IsAtMost : List ℕ → ℕ → ℕ → ℕ → Type 0
IsAtMost tree first end n = (i : ℕ) → first ≤ i → i < end → slice_index tree i ≤ n
