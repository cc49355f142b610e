-- Internal. What buckets and their snapshots keep of a journal.
use Rattle.std.specs.Prelude.{◌≡◌, ℕ, List, Option, None, Some, length, bytes_eq}
use Rattle.std.specs.Arc.{arc_value}
use Rattle.std.specs.declared.sync.Arc.{Arc}
use Rattle.indexmap.specs.IndexMap.{IndexMap, get_by}
use Rattle.commit_book.specs.declared.change.Change.{Change}
use Rattle.commit_book.specs.Journal.{document_at}
use Rattle.query_core.specs.Window.{Row}
use Rattle.bucket_store.specs.Buckets.{Found, HasBuckets}

-- what contracts see of a snapshot: its collection, and all changes up to it
pub record Taken : Type 0 where
  pub collection : List ℕ
  pub journal : List Change

-- a snapshot of a collection after these changes
abbrev pub taken : List ℕ → List Change → Taken
taken collection journal = record { collection = collection; journal = journal }

-- the documents of a collection after all changes
abbrev pub last_documents : List Change → List ℕ → Found
last_documents journal collection id = document_at journal (length journal) collection id

-- buckets have these documents, and where there are no buckets there is no document
abbrev pub IsKept : {Z : Type 0} → Found → Option (Arc (List (List Row)) Z) → Type 0
IsKept found None = (id : List ℕ) → found id ≡ None
IsKept found (Some shared) = HasBuckets found (arc_value shared)

-- of each collection there are the documents after all changes
pub record AreKept {Z S : Type 0} (journal : List Change) (collections : IndexMap (List ℕ) (Arc (List (List Row)) Z) S) : Type 0 where
  pub each : (collection : List ℕ) → IsKept (last_documents journal collection) (get_by (bytes_eq collection) collections)

-- the same, and the changes are counted
pub record IsSound {Z S : Type 0} (count : ℕ) (journal : List Change) (collections : IndexMap (List ℕ) (Arc (List (List Row)) Z) S) : Type 0 where
  pub counted : count ≡ length journal
  pub kept : AreKept journal collections

-- a snapshot has the documents of its collection after all changes, which are counted
pub record IsTaken {Z : Type 0} (at : ℕ) (shared : Option (Arc (List (List Row)) Z)) (collection : List ℕ) (journal : List Change) : Type 0 where
  pub counted : at ≡ length journal
  pub kept : IsKept (last_documents journal collection) shared
