-- Internal. The names that an index has.
use Rattle.std.specs.Prelude.{◌≡◌, ℕ, Bool, ◌&&◌, ◌||◌, List, [], Option, is_some, unwrap_or, bytes_eq, position}
use Rattle.std.specs.List.{list_any}
use Rattle.std.specs.Map.{keys_of, lookup}
use Rattle.commit_book.specs.declared.change.Change.{Change}
use Rattle.commit_book.specs.Journal.{is_of}

-- collections, each with the ids of its records
abbrev pub Names : Type 0
Names = List (List ℕ × List (List ℕ))

-- the collection is among the names
abbrev pub has_collection : Names → List ℕ → Bool
has_collection names collection = is_some (lookup (bytes_eq collection) names)

-- the id is among those of the collection
abbrev pub has_record : Names → List ℕ → List ℕ → Bool
has_record names collection id = list_any (bytes_eq id) (unwrap_or (lookup (bytes_eq collection) names) [])

-- the index of the collection among the names
abbrev pub collection_index : Names → List ℕ → Option ℕ
collection_index names collection = position (bytes_eq collection) (keys_of names)

-- the index of the id among those of the collection
abbrev pub record_index : Names → List ℕ → List ℕ → Option ℕ
record_index names collection id = position (bytes_eq id) (unwrap_or (lookup (bytes_eq collection) names) [])

-- the change is of this collection
abbrev pub is_in : List ℕ → Change → Bool
is_in collection change = bytes_eq change.collection collection

-- the names are those of the records of these rows, and no others
pub record AreNamesOf (rows : List Change) (names : Names) : Type 0 where
  pub collections : (collection : List ℕ) → has_collection names collection ≡ list_any (is_in collection) rows
  pub records : (collection id : List ℕ) → has_record names collection id ≡ list_any (is_of collection id) rows

-- the names with those of one record, and no others
pub record AddsName (collection id : List ℕ) (old new : Names) : Type 0 where
  pub collections : (other : List ℕ) → has_collection new other ≡ (has_collection old other || bytes_eq collection other)
  pub records : (other own : List ℕ) → has_record new other own ≡ (has_record old other own || (bytes_eq id own && bytes_eq collection other))
