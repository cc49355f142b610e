-- Internal. The clocks of the last writes of records, by their names.
use Rattle.std.specs.Prelude.{◌≡◌, ◌⊎◌, ℕ, false, ◌&&◌, List, [], Option, Some, None, unwrap_or, option_and_then, bytes_eq}
use Rattle.std.specs.Map.{lookup}

-- the ids of a collection, each with the clocks of its record's writes
abbrev pub Ids : Type 0
Ids = List (List ℕ × List ℕ)

-- collections, each with its ids
abbrev pub Names : Type 0
Names = List (List ℕ × Ids)

-- the clocks of the writes of an id; none where it has no entry
abbrev pub clocks_under : Ids → List ℕ → List ℕ
clocks_under ids id = unwrap_or (lookup (bytes_eq id) ids) []

-- the entry of a record
abbrev pub entry_of : Names → List ℕ → List ℕ → Option (List ℕ)
entry_of names collection id = option_and_then (λ ids. lookup (bytes_eq id) ids) (lookup (bytes_eq collection) names)

-- the clocks of the writes of a record; none where it has no entry
abbrev pub clocks_of : Names → List ℕ → List ℕ → List ℕ
clocks_of names collection id = unwrap_or (entry_of names collection id) []

-- an entry is as it was, or it is new and has no write
abbrev pub IsKeptOrNew : Option (List ℕ) → Option (List ℕ) → Type 0
IsKeptOrNew old new = (new ≡ old) ⊎ ((old ≡ None) × (new ≡ Some []))

-- each entry of a collection is as it was, or is new and has no write
abbrev pub Extends : Ids → Ids → Type 0
Extends old new = (id : List ℕ) → IsKeptOrNew (lookup (bytes_eq id) old) (lookup (bytes_eq id) new)

-- each entry is as it was, or is new and has no write
abbrev pub ExtendsAll : Names → Names → Type 0
ExtendsAll old new = (collection id : List ℕ) → IsKeptOrNew (entry_of old collection id) (entry_of new collection id)

-- the entries of the other ids are as they were
abbrev pub KeepOtherIds : List ℕ → Ids → Ids → Type 0
KeepOtherIds id old new = (other : List ℕ) → bytes_eq id other ≡ false → lookup (bytes_eq other) new ≡ lookup (bytes_eq other) old

-- the entries of the other records are as they were
abbrev pub KeepOthers : List ℕ → List ℕ → Names → Names → Type 0
KeepOthers collection id old new = (c i : List ℕ) → (bytes_eq collection c && bytes_eq id i) ≡ false → entry_of new c i ≡ entry_of old c i
