-- Internal. The entries of keys: the copies of each, of which at least one is unexpired.
use Rattle.std.specs.Prelude.{◌≡◌, ◌⊎◌, ℕ, ◌<◌, ◌≤◌, Bool, true, false, max, if◌then◌else◌, List, [], ◌∷◌, ◌++◌, length, map, filter, All, Option, Some, None, IfSome}
use Rattle.std.specs.List.{list_any, IsDistinct}
use Rattle.std.specs.Map.{lookup, keys_of}
use Rattle.query_normal.specs.declared.key.KeyShape.{KeyShape}
use Rattle.query_normal.specs.Keys.{same_key}
use Rattle.issued_expiries.specs.Copies.{Copy}
use Rattle.issued_expiries.specs.KeyCopies.{KeptCopies, HasSpace, greatest, is_later, last_until}
use Rattle.expiring_map.specs.declared.timed.Timed.{Timed}

-- keys, each with its copies
abbrev pub Entries : Type 0
Entries = List (KeyShape × KeptCopies)

-- the copies of a key
abbrev pub kept_of : KeyShape → Entries → Option KeptCopies
kept_of key entries = lookup (same_key key) entries

-- the unexpired copies of all keys
abbrev pub held_of : ℕ → Entries → List Copy
held_of clock [] = []
held_of clock (e ∷ entries) = map (λ copy. (e.0, copy.0, copy.1)) (filter (is_later clock) e.1.copies) ++ held_of clock entries

-- the greatest until of copies whose commits pass a test, or 0 without one
abbrev pub greatest_in : (ℕ → Bool) → Option KeptCopies → ℕ
greatest_in test None = 0
greatest_in test (Some kept) = greatest test kept.copies

-- each key has an unexpired copy
abbrev pub AreUnexpired : ℕ → Entries → Type 0
AreUnexpired clock entries = (key : KeyShape) → IfSome (kept_of key entries) (λ kept. clock < last_until kept)

-- each key of a list has space for one more copy, if it has an entry
abbrev pub HaveSpace : List KeyShape → Entries → Type 0
HaveSpace reserved entries = (key : KeyShape) → list_any (same_key key) reserved ≡ true → IfSome (kept_of key entries) HasSpace

-- no key of a list has an entry
abbrev pub AreGone : List KeyShape → Entries → Type 0
AreGone idle entries = (key : KeyShape) → list_any (same_key key) idle ≡ true → kept_of key entries ≡ None

-- the keys of a map, each with its copies
abbrev pub copies_in : List (KeyShape × Timed KeptCopies) → Entries
copies_in held = map (λ e. (e.0, e.1.value)) held

-- each key expires with its last copy
abbrev pub AreTied : List (KeyShape × Timed KeptCopies) → Type 0
AreTied held = All (λ e. e.1.until ≡ last_until e.1.value) held

-- each key has an unexpired copy and expires with its last one
pub record IsSound (clock : ℕ) (held : List (KeyShape × Timed KeptCopies)) (reserved idle : List KeyShape) : Type 0 where
  pub distinct : IsDistinct same_key (keys_of (copies_in held))
  pub few : length held ≤ 1000000
  pub tied : AreTied held
  pub unexpired : AreUnexpired clock (copies_in held)
  pub space : HaveSpace reserved (copies_in held)
  pub gone : AreGone idle (copies_in held)

-- a moment leaves a key as it was, or its last copy expired and it became idle
abbrev pub Ages : ℕ → Option KeptCopies → Option KeptCopies → Bool → Bool → Type 0
Ages moment before after was_idle is_idle =
    ((after ≡ before) × (is_idle ≡ was_idle))
    ⊎ ((kept : KeptCopies) × (before ≡ Some kept) × (last_until kept ≤ moment) × (after ≡ None) × (is_idle ≡ true))

-- it does so for each key
abbrev pub AllAge : ℕ → Entries → Entries → List KeyShape → List KeyShape → Type 0
AllAge moment before after was_idle is_idle =
    (key : KeyShape) → Ages moment (kept_of key before) (kept_of key after) (list_any (same_key key) was_idle) (list_any (same_key key) is_idle)

-- a key has one copy more, and every other key has the same copies
pub record Puts (key : KeyShape) (commit until : ℕ) (before after : Entries) : Type 0 where
  pub copies : (test : ℕ → Bool) → greatest_in test (kept_of key after) ≡ max (greatest_in test (kept_of key before)) (if test commit then until else 0)
  pub others : (other : KeyShape) → same_key key other ≡ false → kept_of other after ≡ kept_of other before

-- the expired copies of a key were dropped
pub record Trims (clock : ℕ) (key : KeyShape) (before after : Entries) : Type 0 where
  pub keys : keys_of after ≡ keys_of before
  pub held : held_of clock after ≡ held_of clock before
  pub last : greatest_in (λ _. true) (kept_of key after) ≡ greatest_in (λ _. true) (kept_of key before)
  pub others : (other : KeyShape) → same_key key other ≡ false → kept_of other after ≡ kept_of other before
