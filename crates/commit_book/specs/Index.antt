-- Internal. What is kept of each record, by which its documents are found.
use Rattle.std.specs.Prelude.{◌≡◌, ℕ, zero, suc, ◌+◌, ◌-◌, ◌^◌, ◌<◌, ◌≤◌, Bool, ◌&&◌, not, true, false, map, drop, List, [], ◌∷◌, ◌++◌, Option, Some, None, is_some, if◌then◌else◌, nat_le, length, filter, slice_get, bytes_eq, position, All, ◌≢◌, IfSome, option_map, option_and_then}
use Rattle.std.specs.Option.{option_map_or}
use Rattle.std.specs.Global.{Global}
use Rattle.std.specs.VecDeque.{deque_len, deque_capacity}
use Rattle.std.specs.declared.collections.VecDeque.{VecDeque}
use Rattle.std.specs.List.Sorted.{IsNonDecreasing}
use Rattle.std.specs.Map.{keys_of}
use Rattle.indexmap.specs.IndexMap.{IndexMap, get_by, spare}
use Rattle.q_doc.specs.Tree.{Tree}
use Rattle.q_doc.specs.Printed.{printed}
use Rattle.commit_book.specs.declared.change.Change.{Change}
use Rattle.commit_book.specs.declared.index.NewRecord.{NewRecord}
use Rattle.commit_book.specs.declared.index.Record.{Record}
use Rattle.commit_book.specs.declared.index.Slot.{Slot}
use Rattle.commit_book.specs.declared.index.Slot.TheVariants.{Known, InCollection, InNewCollection}
use Rattle.commit_book.specs.declared.row.Reserved.{Reserved}
use Rattle.commit_book.specs.Journal.{is_of, put_at, document_at, cost_of, row_bytes, kept, kept_rows, kept_with}
use Rattle.commit_book.specs.Names.{Names, AddsName, AreNamesOf, collection_index, has_collection, has_record, record_index}

-- the rows above the horizon
abbrev pub Rows : Type 0
Rows = VecDeque Change Global

-- the commits with the next one, where its change is of the record
abbrev pub commits_after : List ℕ → List ℕ → ℕ → Option Change → List ℕ → List ℕ
commits_after collection id commit (Some change) before = if is_of collection id change then before ++ commit ∷ [] else before
commits_after collection id commit None before = before

-- the commits of a record among the first n rows above a horizon, ascending
abbrev pub commits_of : ℕ → List Change → ℕ → List ℕ → List ℕ → List ℕ
commits_of horizon rows zero collection id = []
commits_of horizon rows (suc n) collection id = commits_after collection id (suc (n + horizon)) (slice_get rows n) (commits_of horizon rows n collection id)

-- the last item
abbrev pub last_of : List ℕ → Option ℕ
last_of [] = None
last_of (x ∷ []) = Some x
last_of (x ∷ y ∷ xs) = last_of (y ∷ xs)

-- the last commit that is not above n
abbrev pub version_of : List ℕ → ℕ → Option ℕ
version_of commits n = last_of (filter (λ commit. nat_le commit n) commits)

-- the last row not behind n of a record with these commits, and its commit
abbrev pub change_of : ℕ → List Change → List ℕ → ℕ → Option (ℕ × Change)
change_of horizon rows commits n = option_and_then (λ commit. option_map (λ change. (commit, change)) (slice_get rows (commit - horizon - 1))) (version_of commits n)

-- the document that a row puts, or the base where there is no row
abbrev pub document_over : Option (ℕ × Tree) → Option (ℕ × Change) → Option (ℕ × Tree)
document_over base None = base
document_over base (Some found) = put_at found.0 found.1.document

-- the document of a record at n, by its base and its commits
abbrev pub document_in : ℕ → List Change → Option (ℕ × Tree) → List ℕ → ℕ → Option (ℕ × Tree)
document_in horizon rows base commits n = document_over base (change_of horizon rows commits n)

-- numbers of rows above the horizon, ascending
pub record AreCommits (horizon : ℕ) (rows : List Change) (commits : List ℕ) : Type 0 where
  pub rising : IsNonDecreasing commits
  pub within : All (λ commit. (horizon < commit) × (commit ≤ length rows + horizon)) commits

-- the commits of what is kept of a record, if anything is
abbrev pub commits_kept : Option Record → List ℕ
commits_kept found = option_map_or (λ r. r.commits.items) found []

-- its base
abbrev pub base_kept : Option Record → Option (ℕ × Tree)
base_kept found = option_and_then (λ r. r.base) found

-- the number of its further commits for which memory is reserved
abbrev pub space_kept : Option Record → ℕ
space_kept found = option_map_or (λ r. deque_capacity r.commits - deque_len r.commits) found 0

-- there is neither a base nor a commit
abbrev pub is_bare : Option (ℕ × Tree) → List ℕ → Bool
is_bare (Some base) commits = false
is_bare None [] = true
is_bare None (commit ∷ commits) = false

-- what a base under these names takes of the capacity
abbrev pub base_cost : List ℕ → List ℕ → Option (ℕ × Tree) → ℕ
base_cost collection id base = option_map_or (λ d. row_bytes + length collection + length id + length (printed d.1)) base 0

-- what is not kept any more once a row is dropped: the base of its record, and the row where it puts no document
abbrev pub freed_by : Change → Option (ℕ × Tree) → ℕ
freed_by row base = base_cost row.collection row.id base + (if is_some row.document then 0 else cost_of row)

-- what a row takes of the capacity, where it puts a document
abbrev pub put_cost : Change → ℕ
put_cost row = if is_some row.document then cost_of row else 0

module _ {S : Type 0} where
  -- the commits of an id
  abbrev pub commits_under : IndexMap (List ℕ) Record S → List ℕ → List ℕ
  commits_under records id = commits_kept (get_by (bytes_eq id) records)

  -- the base of an id
  abbrev pub base_under : IndexMap (List ℕ) Record S → List ℕ → Option (ℕ × Tree)
  base_under records id = base_kept (get_by (bytes_eq id) records)

  -- the number of further commits of an id for which memory is reserved
  abbrev pub space_under : IndexMap (List ℕ) Record S → List ℕ → ℕ
  space_under records id = space_kept (get_by (bytes_eq id) records)

  -- the index of an id
  abbrev pub index_under : IndexMap (List ℕ) Record S → List ℕ → Option ℕ
  index_under records id = position (bytes_eq id) (keys_of records.entries)

  -- the document of an id at n
  abbrev pub document_under : ℕ → List Change → IndexMap (List ℕ) Record S → ℕ → List ℕ → Option (ℕ × Tree)
  document_under horizon rows records n id = document_in horizon rows (base_under records id) (commits_under records id) n

module _ {S T : Type 0} where
  -- what is kept of a record
  abbrev pub record_in : IndexMap (List ℕ) (IndexMap (List ℕ) Record S) T → List ℕ → List ℕ → Option Record
  record_in collections collection id = option_and_then (λ records. get_by (bytes_eq id) records) (get_by (bytes_eq collection) collections)

  -- its commits
  abbrev pub commits_in : IndexMap (List ℕ) (IndexMap (List ℕ) Record S) T → List ℕ → List ℕ → List ℕ
  commits_in collections collection id = commits_kept (record_in collections collection id)

  -- its base
  abbrev pub base_in : IndexMap (List ℕ) (IndexMap (List ℕ) Record S) T → List ℕ → List ℕ → Option (ℕ × Tree)
  base_in collections collection id = base_kept (record_in collections collection id)

  -- the number of further commits of a record for which memory is reserved
  abbrev pub space_in : IndexMap (List ℕ) (IndexMap (List ℕ) Record S) T → List ℕ → List ℕ → ℕ
  space_in collections collection id = space_kept (record_in collections collection id)

  -- the number of further records of a collection for which memory is reserved
  abbrev pub spare_in : IndexMap (List ℕ) (IndexMap (List ℕ) Record S) T → List ℕ → ℕ
  spare_in collections collection = option_map_or (λ records. spare records) (get_by (bytes_eq collection) collections) 0

-- the names in the index
abbrev pub names_of : {S T : Type 0} → IndexMap (List ℕ) (IndexMap (List ℕ) Record S) T → Names
names_of collections = map (λ e. (e.0, keys_of e.1.entries)) collections.entries

-- each record has its document at the horizon and the commits of its rows above it, and no other record is in the index
pub record IsIndexOf {S T : Type 0} (horizon : ℕ) (rows journal : List Change) (collections : IndexMap (List ℕ) (IndexMap (List ℕ) Record S) T) : Type 0 where
  pub commits : (collection id : List ℕ) → commits_in collections collection id ≡ commits_of horizon rows (length rows) collection id
  pub bases : (collection id : List ℕ) → base_in collections collection id ≡ document_at journal horizon collection id
  pub names : AreNamesOf (kept_rows journal horizon) (names_of collections)

-- a record that has no commit, with memory reserved for one
pub record IsNew (id : List ℕ) (record' : NewRecord) : Type 0 where
  pub id_is : record'.id ≡ id
  pub none : record'.commits.items ≡ []
  pub space : deque_len record'.commits < deque_capacity record'.commits

-- the index of the collection of a slot, where it is in the index
abbrev pub collection_of : Slot → Option ℕ
collection_of (Known collection own) = Some collection
collection_of (InCollection collection new) = Some collection
collection_of (InNewCollection new) = None

-- the next commit of an id can be added without memory under its collection, which has this index
abbrev pub IsSlotUnder : {S : Type 0} → IndexMap (List ℕ) Record S → ℕ → List ℕ → Slot → Type 0
IsSlotUnder records index id (Known collection own) = (collection ≡ index) × (index_under records id ≡ Some own) × (0 < space_under records id)
IsSlotUnder records index id (InCollection collection new) = (collection ≡ index) × IsNew id new × (0 < spare records) × (get_by (bytes_eq id) records ≡ None)
IsSlotUnder records index id (InNewCollection new) = ⊥

-- the next commit of a record can be added without memory, and the indexes are those of its names
abbrev pub IsSlotIn : {S T : Type 0} → IndexMap (List ℕ) (IndexMap (List ℕ) Record S) T → List ℕ → List ℕ → Slot → Type 0
IsSlotIn collections collection id (Known index own) =
    (collection_index (names_of collections) collection ≡ Some index) × (record_index (names_of collections) collection id ≡ Some own) × (0 < space_in collections collection id)
IsSlotIn collections collection id (InCollection index new) =
    (collection_index (names_of collections) collection ≡ Some index) × IsNew id new × (0 < spare_in collections collection) × (has_record (names_of collections) collection id ≡ false)
IsSlotIn collections collection id (InNewCollection new) =
    IsNew id new.value.first × (new.value.name ≡ collection) × (new.value.records.entries ≡ []) × (0 < spare new.value.records) × (0 < spare collections) × (has_collection (names_of collections) collection ≡ false)

-- a commit is added to those of one record, and the names of the record to the index
pub record AddsCommit {S T : Type 0} (collection id : List ℕ) (commit : ℕ) (old new : IndexMap (List ℕ) (IndexMap (List ℕ) Record S) T) : Type 0 where
  pub own : commits_in new collection id ≡ commits_in old collection id ++ commit ∷ []
  pub ids : (other : List ℕ) → other ≢ id → commits_in new collection other ≡ commits_in old collection other
  pub others : (collection' id' : List ℕ) → collection' ≢ collection → commits_in new collection' id' ≡ commits_in old collection' id'
  pub bases : (collection' id' : List ℕ) → base_in new collection' id' ≡ base_in old collection' id'
  pub names : AddsName collection id (names_of old) (names_of new)

-- the first commit of an id is taken away and its base replaced; an id without both leaves the records
pub record DropsUnder {S : Type 0} (id : List ℕ) (base : Option (ℕ × Tree)) (old new : IndexMap (List ℕ) Record S) : Type 0 where
  pub own : base_under new id ≡ base
  pub commits : commits_under new id ≡ drop 1 (commits_under old id)
  pub named : is_some (get_by (bytes_eq id) new) ≡ not (is_bare base (drop 1 (commits_under old id)))
  pub others : (other : List ℕ) → bytes_eq id other ≡ false → get_by (bytes_eq other) new ≡ get_by (bytes_eq other) old

-- the same of a record of the index; a collection without a record leaves it
pub record DropsIn {S T : Type 0} (collection id : List ℕ) (base : Option (ℕ × Tree)) (old new : IndexMap (List ℕ) (IndexMap (List ℕ) Record S) T) : Type 0 where
  pub own : base_in new collection id ≡ base
  pub commits : commits_in new collection id ≡ drop 1 (commits_in old collection id)
  pub named : is_some (record_in new collection id) ≡ not (is_bare base (drop 1 (commits_in old collection id)))
  pub others : (collection' id' : List ℕ) → (bytes_eq id id' && bytes_eq collection collection') ≡ false → record_in new collection' id' ≡ record_in old collection' id'
  pub apart : (other : List ℕ) → bytes_eq collection other ≡ false → get_by (bytes_eq other) new ≡ get_by (bytes_eq other) old
  pub filled : is_some (get_by (bytes_eq collection) new) ≡ true → (other : List ℕ) × (is_some (record_in new collection other) ≡ true)

-- a change can be added without memory, and fits
pub record IsReadyFor {S T : Type 0} (capacity horizon : ℕ) (rows : Rows) (journal : List Change) (collections : IndexMap (List ℕ) (IndexMap (List ℕ) Record S) T) (reserved : Reserved) : Type 0 where
  pub fits : kept_with journal horizon reserved.row ≤ capacity
  pub space : deque_len rows < deque_capacity rows
  pub slot : IsSlotIn collections reserved.row.collection reserved.row.id reserved.slot

-- what is kept and the names stay, and what was reserved stays reserved
pub record KeepsSpace {S T : Type 0} (old new : IndexMap (List ℕ) (IndexMap (List ℕ) Record S) T) : Type 0 where
  pub commits : (collection id : List ℕ) → commits_in new collection id ≡ commits_in old collection id
  pub bases : (collection id : List ℕ) → base_in new collection id ≡ base_in old collection id
  pub names : names_of new ≡ names_of old
  pub space : (collection id : List ℕ) → space_in old collection id ≤ space_in new collection id
  pub records : (collection : List ℕ) → spare_in old collection ≤ spare_in new collection
  pub spare : spare old ≤ spare new

-- the same of the records of one collection
pub record KeepsSpaceUnder {S : Type 0} (old new : IndexMap (List ℕ) Record S) : Type 0 where
  pub commits : (id : List ℕ) → commits_under new id ≡ commits_under old id
  pub bases : (id : List ℕ) → base_under new id ≡ base_under old id
  pub ids : keys_of new.entries ≡ keys_of old.entries
  pub space : (id : List ℕ) → space_under old id ≤ space_under new id
  pub spare : spare old ≤ spare new

-- the rows are those above the horizon, the sum and the index are those of the kept rows, the other sum is that of the
-- newest documents, and the reserved change has its memory
pub record IsSound {S T : Type 0} (capacity bytes live horizon : ℕ) (rows : Rows) (journal : List Change) (collections : IndexMap (List ℕ) (IndexMap (List ℕ) Record S) T) (reserved : Option Reserved) : Type 0 where
  pub most : capacity ≤ 2 ^ 62
  pub count : length journal < 2 ^ 64
  pub within : horizon ≤ length journal
  pub above : rows.items ≡ drop horizon journal
  pub sum : bytes ≡ kept journal horizon
  pub newest : live ≡ kept journal (length journal)
  pub fits : bytes ≤ capacity
  pub index : IsIndexOf horizon rows.items journal collections
  pub ready : IfSome reserved (IsReadyFor capacity horizon rows journal collections)
