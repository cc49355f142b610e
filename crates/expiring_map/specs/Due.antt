-- Internal. The queue of due indexes.
use Rattle.std.specs.Prelude.{◌≡◌, ℕ, ◌+◌, ◌-◌, ◌<◌, ◌≤◌, List, length, Contains, slice_index_or, sum_by}
use Rattle.std.specs.declared.cmp.Reverse.{Reverse}
use Rattle.std.specs.declared.cmp.Ordering.{Ordering}
use Rattle.std.specs.Ordering.{nat_cmp, ordering_then}
use Rattle.query_normal.specs.declared.key.KeyShape.{KeyShape}
use Rattle.expiring_map.specs.declared.timed.Timed.{Timed}

-- an index that is due at a second
abbrev pub due : ℕ → ℕ → Reverse (ℕ × ℕ)
due until index = record { 0 = (until, index) }

-- the earliest first
abbrev pub queue_cmp : Reverse (ℕ × ℕ) → Reverse (ℕ × ℕ) → Ordering
queue_cmp x y = ordering_then (nat_cmp y.0.0 x.0.0) (nat_cmp y.0.1 x.0.1)

-- the seconds from when each index is due to the moment, summed up
abbrev pub overdue : ℕ → List (Reverse (ℕ × ℕ)) → ℕ
overdue moment queue = sum_by (λ d. moment + 1 - d.0.0) queue

module _ {V : Type 0} where
  -- the index is in the queue, no later than its key expires
  abbrev pub IsDueAt : List (KeyShape × Timed V) → List (Reverse (ℕ × ℕ)) → ℕ → Type 0
  IsDueAt held queue i = (d : KeyShape × Timed V) → (v : ℕ) × (v ≤ (slice_index_or held i d).1.until) × Contains queue (due v i)

  -- each index is in the queue
  abbrev pub IsCovered : List (KeyShape × Timed V) → List (Reverse (ℕ × ℕ)) → Type 0
  IsCovered held queue = (i : ℕ) → i < length held → IsDueAt held queue i

  -- each index but one is
  abbrev pub IsCoveredBut : ℕ → List (KeyShape × Timed V) → List (Reverse (ℕ × ℕ)) → Type 0
  IsCoveredBut index held queue = (i : ℕ) → i < length held → (i ≡ index → ⊥) → IsDueAt held queue i

  -- no key expires before the one at an index, which expires no later than the moment
  abbrev pub IsEarliest : ℕ → ℕ → List (KeyShape × Timed V) → Type 0
  IsEarliest moment index held = (i : ℕ) (d : KeyShape × Timed V) → i < length held → ((slice_index_or held index d).1.until ≤ (slice_index_or held i d).1.until) × ((slice_index_or held index d).1.until ≤ moment)
