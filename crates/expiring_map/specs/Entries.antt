-- Internal. Keys, each with the second at which it expires and a value.
use Rattle.std.specs.Prelude.{◌≡◌, ℕ, zero, suc, ◌≤◌, Bool, max, List, [], ◌∷◌, map, All, None}
use Rattle.std.specs.List.{list_any}
use Rattle.std.specs.List.Sorted.{IsPermutation}
use Rattle.std.specs.Map.{lookup}
use Rattle.query_normal.specs.declared.key.KeyShape.{KeyShape}
use Rattle.query_normal.specs.Keys.{same_key}
use Rattle.expiring_map.specs.declared.timed.Timed.{Timed}

module _ {V : Type 0} where
  -- the same second with another value
  abbrev pub with_value : Timed V → V → Timed V
  with_value timed value = record { until = timed.until; value = value }

  -- the same value with the later of two seconds
  abbrev pub extended : Timed V → ℕ → Timed V
  extended timed until = record { until = max timed.until until; value = timed.value }

  -- the entries with another value at an index
  abbrev pub with_value_at : List (KeyShape × Timed V) → ℕ → V → List (KeyShape × Timed V)
  with_value_at [] index value = []
  with_value_at (e ∷ entries) zero value = (e.0, with_value e.1 value) ∷ entries
  with_value_at (e ∷ entries) (suc index) value = e ∷ with_value_at entries index value

  -- the entries with the later of two seconds at an index
  abbrev pub extended_at : List (KeyShape × Timed V) → ℕ → ℕ → List (KeyShape × Timed V)
  extended_at [] index until = []
  extended_at (e ∷ entries) zero until = (e.0, extended e.1 until) ∷ entries
  extended_at (e ∷ entries) (suc index) until = e ∷ extended_at entries index until

  -- the keys, each with the second at which it expires
  abbrev pub seconds_of : List (KeyShape × Timed V) → List (KeyShape × ℕ)
  seconds_of entries = map (λ e. (e.0, e.1.until)) entries

  -- whether a key has an entry
  abbrev pub is_among : List (KeyShape × Timed V) → KeyShape → Bool
  is_among entries key = list_any (λ e. same_key key e.0) entries

  -- the entry was removed, and its key has no other
  pub record Removes (key : KeyShape) (timed : Timed V) (old new : List (KeyShape × Timed V)) : Type 0 where
    pub parted : IsPermutation old ((key, timed) ∷ new)
    pub absent : lookup (same_key key) new ≡ None

  -- an entry whose second is not above the moment was removed, and no other expires earlier
  pub record Expires (moment : ℕ) (key : KeyShape) (value : V) (old new : List (KeyShape × Timed V)) : Type 0 where
    pub until : ℕ
    pub past : until ≤ moment
    pub earliest : All (λ e. until ≤ e.1.until) old
    pub removed : Removes key (record { until = until; value = value }) old new
