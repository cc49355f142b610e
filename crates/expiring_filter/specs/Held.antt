-- Internal. The held keys, each with the second at which it expires.
use Rattle.std.specs.Prelude.{◌≡◌, ℕ, ◌^◌, ◌<◌, ◌≤◌, Bool, max, if◌then◌else◌, List, [], ◌∷◌, ◌++◌, length, sum_by, slice_index, All}
use Rattle.std.specs.List.{list_any}
use Rattle.std.specs.List.Sorted.{IsPermutation}
use Rattle.query_normal.specs.declared.key.KeyShape.{KeyShape}
use Rattle.query_normal.specs.Keys.{same_key}
use Rattle.query_normal.specs.Pages.{positions}
use Rattle.expiring_filter.specs.Counts.{times, IsFlat}

-- the number of times that j is among the positions of the keys, with repetitions
abbrev pub count_among : ℕ → ℕ → List (KeyShape × ℕ) → ℕ → ℕ
count_among log2_bits hashes held j = sum_by (λ e. times j (positions e.0 log2_bits hashes)) held

-- the counters and bits are those of the held keys
pub record IsCounted (log2_bits hashes : ℕ) (held : List (KeyShape × ℕ)) (counters bytes : List ℕ) : Type 0 where
  pub most_bits : log2_bits ≤ 22
  pub few_hashes : hashes ≤ 16
  pub few : length held ≤ 1000000
  pub sized : length counters ≡ 2 ^ log2_bits
  pub counted : (j : ℕ) → j < length counters → slice_index counters j ≡ count_among log2_bits hashes held j
  pub flat : IsFlat counters bytes

-- only keys whose second is not above the moment were removed
pub record LosesPast (moment : ℕ) (old new : List (KeyShape × ℕ)) : Type 0 where
  pub gone : List (KeyShape × ℕ)
  pub parted : IsPermutation old (gone ++ new)
  pub past : All (λ e. e.1 ≤ moment) gone

-- the keys whose second is not above the moment were removed, and no others
pub record Expires (moment : ℕ) (old new : List (KeyShape × ℕ)) : Type 0 where
  pub lost : LosesPast moment old new
  pub later : All (λ e. moment < e.1) new

-- a held key keeps the greater second, and a new key is last
abbrev pub put_until : List (KeyShape × ℕ) → KeyShape → ℕ → List (KeyShape × ℕ)
put_until [] key until = (key, until) ∷ []
put_until (e ∷ held) key until = if same_key key e.0 then (e.0, max e.1 until) ∷ held else e ∷ put_until held key until

-- whether a key is among those held
abbrev pub is_among : List (KeyShape × ℕ) → KeyShape → Bool
is_among held key = list_any (λ e. same_key key e.0) held
