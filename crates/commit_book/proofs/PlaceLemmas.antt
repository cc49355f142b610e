-- What an index of a name says of a map, and what a write by index makes of it.
use Rattle.std.proofs.Common.{true, ◌≡◌, ◌≢◌, ◌++◌, ℕ, suc, ◌+◌, ◌-◌, ◌<◌, ◌≤◌, Bool, List, [], ◌∷◌, Option, Some, None, IsSome, length, slice_get, position, refl, sym, ap, ◌∙◌, subst, arith, inl, inr}
use Rattle.std.specs.VecDeque.{deque_len, deque_capacity}
use Rattle.std.specs.List.{list_any, position_or_len, IsDistinct}
use Rattle.std.specs.Option.{option_map_or}
use Rattle.std.specs.Map.{keys_of, lookup, set_value}
use Rattle.std.specs.Str.{bytes_eq}
use Rattle.std.proofs.lemmas.Bool.{cases_Bool}
use Rattle.std.proofs.lemmas.Slice.Eq.{bytes_eq-Decides}
use Rattle.indexmap.specs.IndexMap.{IndexMap, get_by, keys, spare, values, with_value_at, set_value_at, IsUnique, UpdatesBy, WritesThrough}
use Rattle.indexmap.proofs.CallerLemmas.{keys-with_value_at, index_map_len-with_value_at, updates-with_value_at}
use Rattle.indexmap.proofs.MapLemmas.{Found-position, Missing-position, index-first}
use Rattle.indexmap.proofs.RemoveLemmas.{own_first}
use Rattle.q_doc.specs.TextOrder.{text_eq_equiv}
use Rattle.commit_book.specs.declared.index.NewRecord.{NewRecord}
use Rattle.commit_book.specs.declared.index.Record.{Record}
use Rattle.commit_book.specs.declared.index.Slot.TheVariants.{Known, InCollection}
use Rattle.commit_book.specs.Index.{base_kept, base_under, commits_kept, commits_under, index_under, space_kept, space_under, names_of, AddsCommit, IsSlotIn, IsSlotUnder, KeepsSpaceUnder}
use Rattle.commit_book.specs.Names.{collection_index}
use Rattle.commit_book.proofs.NameLemmas.{adds-commit, collection-place, named-last, not-there, record_from, record-place, still-named, written-or-same}

module _ {X : Type 0} where
  set-at : (test : List ℕ → Bool) (es : List (List ℕ × X)) (w : X) → set_value_at es (position_or_len test (keys_of es)) w ≡ set_value test es w
  set-at test [] w = refl
  set-at test (e ∷ es) w =
      elim (cases_Bool (test e.0)) [
        | inl hit ↦ rw hit refl
        | inr miss ↦ (
            let next : 1 + position_or_len test (keys_of es) ≡ suc (position_or_len test (keys_of es)) = omega arith in
            rw miss (ap (λ (n : ℕ). set_value_at (e ∷ es) n w) next ∙ ap (λ (l : List (List ℕ × X)). e ∷ l) (set-at test es w)))
      ]

  entry-at : (key : List ℕ) (es : List (List ℕ × X)) (v : X) → lookup (bytes_eq key) es ≡ Some v → slice_get es (position_or_len (bytes_eq key) (keys_of es)) ≡ Some (key, v)
  entry-at key [] v found = absurd (cc)
  entry-at key (e ∷ es) v found =
      elim (cases_Bool (bytes_eq key e.0)) [
        | inl hit ↦ (
            let is : Some e.1 ≡ Some v = rw hit at found in
            let own : e.1 ≡ v = cc in
            let name : e.0 ≡ key = sym ((bytes_eq-Decides key e.0).0 hit) in
            rw hit (ap Some (λ j. (name j, own j))))
        | inr miss ↦ (
            let next : 1 + position_or_len (bytes_eq key) (keys_of es) ≡ suc (position_or_len (bytes_eq key) (keys_of es)) = omega arith in
            let rest : lookup (bytes_eq key) es ≡ Some v = rw miss at found in
            rw miss (ap (λ (n : ℕ). slice_get (e ∷ es) n) next ∙ entry-at key es v rest))
      ]

  value-at : (test : List ℕ → Bool) (es : List (List ℕ × X)) (k : List ℕ) (v : X) → slice_get es (position_or_len test (keys_of es)) ≡ Some (k, v) → lookup test es ≡ Some v
  value-at test [] k v entry = absurd (cc)
  value-at test (e ∷ es) k v entry =
      elim (cases_Bool (test e.0)) [
        | inl hit ↦ (
            let is : Some e ≡ Some (k, v) = rw hit at entry in
            let own : e ≡ (k, v) = cc in
            rw hit (ap (λ (x : List ℕ × X). Some x.1) own))
        | inr miss ↦ (
            let next : 1 + position_or_len test (keys_of es) ≡ suc (position_or_len test (keys_of es)) = omega arith in
            let there : slice_get (e ∷ es) (1 + position_or_len test (keys_of es)) ≡ Some (k, v) = rw miss at entry in
            rw miss (value-at test es k v (sym (ap (λ (n : ℕ). slice_get (e ∷ es) n) next) ∙ there)))
      ]

  -- the entry at the index of a name is that of the name
  pub found-at : (key : List ℕ) (es : List (List ℕ × X)) (i : ℕ) (k : List ℕ) (v : X) → position (bytes_eq key) (keys_of es) ≡ Some i → slice_get es i ≡ Some (k, v) → lookup (bytes_eq key) es ≡ Some v
  found-at key es i k v at entry =
      value-at (bytes_eq key) es k v (ap (slice_get es) (Found-position (bytes_eq key) es i at).or_len ∙ entry)

  -- the index of a name lies within the map
  pub within-at : (key : List ℕ) (es : List (List ℕ × X)) (i : ℕ) → position (bytes_eq key) (keys_of es) ≡ Some i → i < length es
  within-at key es i at = (Found-position (bytes_eq key) es i at).within

  -- no entry has a name without an index
  pub absent-at : (key : List ℕ) (es : List (List ℕ × X)) → position (bytes_eq key) (keys_of es) ≡ None → lookup (bytes_eq key) es ≡ None
  absent-at key es none = (Missing-position (bytes_eq key) es none).value

  -- the entry at an index has the index of its name
  pub own-place : (key : List ℕ) (es : List (List ℕ × X)) (i : ℕ) (v : X) → IsDistinct bytes_eq (keys_of es) → slice_get es i ≡ Some (key, v) → position (bytes_eq key) (keys_of es) ≡ Some i
  own-place key es i v unique entry = index-first (bytes_eq key) es i (own_first bytes_eq text_eq_equiv es i key v unique entry)

  -- a write at the index of a name is a write under the name
  pub writes-at : {S : Type 0} (m : IndexMap (List ℕ) X S) (key : List ℕ) (i : ℕ) (v w : X) → position (bytes_eq key) (keys m) ≡ Some i → get_by (bytes_eq key) m ≡ Some v → IsUnique bytes_eq m →
      WritesThrough bytes_eq (bytes_eq key) m w (with_value_at m i w)
  writes-at m key i v w at found unique =
      let place = (Found-position (bytes_eq key) m.entries i at).or_len in
      let entry : slice_get m.entries i ≡ Some (key, v) = ap (slice_get m.entries) (sym place) ∙ entry-at key m.entries v found in (
        ap (λ (n : ℕ). set_value_at m.entries n w) (sym place) ∙ set-at (bytes_eq key) m.entries w,
        keys-with_value_at m i w,
        index_map_len-with_value_at m i w,
        (λ _. updates-with_value_at m i w text_eq_equiv unique key v entry),
        subst (IsDistinct bytes_eq) (sym (keys-with_value_at m i w)) unique,
        refl,
        refl,
      )

abbrev pub Under : Type 0 → Type 0
Under S = IndexMap (List ℕ) Record S

abbrev pub Maps : Type 0 → Type 0 → Type 0
Maps S T = IndexMap (List ℕ) (Under S) T

-- a collection with an index is in the map
pub collection-within : {S T : Type 0} (maps : Maps S T) (collection : List ℕ) (index : ℕ) → collection_index (names_of maps) collection ≡ Some index → index < length maps.entries
collection-within maps collection index at = within-at collection maps.entries index (sym (collection-place maps collection) ∙ at)

-- and one without an index is not
pub collection-missing : {S T : Type 0} (maps : Maps S T) (collection : List ℕ) → collection_index (names_of maps) collection ≡ None → get_by (bytes_eq collection) maps ≡ None
collection-missing maps collection none = absent-at collection maps.entries (sym (collection-place maps collection) ∙ none)

-- the value at the index of a collection is its records
pub collection-value : {S T : Type 0} (maps : Maps S T) (collection : List ℕ) (index : ℕ) (records : Under S) → collection_index (names_of maps) collection ≡ Some index → slice_get (values maps) index ≡ Some records → get_by (bytes_eq collection) maps ≡ Some records
collection-value maps collection index records at value = (Found-position (bytes_eq collection) maps.entries index (sym (collection-place maps collection) ∙ at)).value ∙ value

-- a name that stands at an index has this index
pub likely-place : {S T : Type 0} (maps : Maps S T) (name there : List ℕ) (index : ℕ) (records : Under S) → IsUnique bytes_eq maps → slice_get maps.entries index ≡ Some (there, records) → bytes_eq name there ≡ true → Some index ≡ collection_index (names_of maps) name
likely-place maps name there index records unique entry same =
    sym (collection-place maps name ∙ own-place name maps.entries index records unique (entry ∙ ap (λ (k : List ℕ). Some (k, records)) (sym ((bytes_eq-Decides name there).0 same))))

-- an id with an index is among the records
pub id-within : {S : Type 0} (records : Under S) (id : List ℕ) (index : ℕ) → index_under records id ≡ Some index → index < length records.entries
id-within records id index at = within-at id records.entries index at

module _ {S : Type 0} (records : Under S) (id : List ℕ) (i : ℕ) (k : List ℕ) (was : Record) (at : index_under records id ≡ Some i) (entry : slice_get records.entries i ≡ Some (k, was)) where
  -- what is kept at the index of an id is its own
  pub record-found : get_by (bytes_eq id) records ≡ Some was
  record-found = found-at id records.entries i k was at entry

  pub space-found : 0 < space_under records id → 0 < deque_capacity was.commits - deque_len was.commits
  space-found space = subst (λ (o : Option Record). 0 < space_kept o) record-found space

  module _ (now : Record) (unique : IsUnique bytes_eq records) where
    record-written : WritesThrough bytes_eq (bytes_eq id) records now (with_value_at records i now)
    record-written = writes-at records id i was now at record-found unique

    put : UpdatesBy bytes_eq (bytes_eq id) records (with_value_at records i now) (Some now)
    put = record-written.3 (subst IsSome (sym record-found) refl)

    -- a commit more
    pub commits-more : (commit : ℕ) → now.commits.items ≡ was.commits.items ++ commit ∷ [] → commits_under (with_value_at records i now) id ≡ commits_under records id ++ commit ∷ []
    commits-more commit more = ap commits_kept put.1 ∙ more ∙ ap (λ (o : Option Record). commits_kept o ++ commit ∷ []) (sym record-found)

    -- the commits of other ids
    pub commits-stay : (other : List ℕ) → other ≢ id → commits_under (with_value_at records i now) other ≡ commits_under records other
    commits-stay other apart =
        elim (cases_Bool (bytes_eq id other)) [
          | inl hit ↦ absurd (apart (sym ((bytes_eq-Decides id other).0 hit)))
          | inr miss ↦ ap commits_kept (put.2 other miss)
        ]

    -- the bases
    pub bases-stay : now.base ≡ was.base → (other : List ℕ) → base_under (with_value_at records i now) other ≡ base_under records other
    bases-stay same other =
        written-or-same records (with_value_at records i now) id was now record-found record-written other (λ (o p : Option Record). base_kept p ≡ base_kept o) refl same

    -- memory for more commits
    pub keeps-under : now.base ≡ was.base → now.commits.items ≡ was.commits.items → deque_len now.commits ≡ deque_len was.commits → deque_capacity was.commits ≤ deque_capacity now.commits → KeepsSpaceUnder records (with_value_at records i now)
    keeps-under base items len grown = record {
      commits = λ q. written-or-same records (with_value_at records i now) id was now record-found record-written q (λ (o p : Option Record). commits_kept p ≡ commits_kept o) refl items;
      bases = bases-stay base;
      ids = keys-with_value_at records i now;
      space = λ q.
          written-or-same records (with_value_at records i now) id was now record-found record-written q
          (λ (o p : Option Record). space_kept o ≤ space_kept p) (omega arith) (omega (arith, len, grown));
      spare = omega arith;
    }

    -- the slot of an id that is there
    pub known-slot : (collection : ℕ) → deque_len now.commits + 1 ≤ deque_capacity now.commits → IsSlotUnder (with_value_at records i now) collection id (Known collection i)
    known-slot collection space = (
      refl,
      ap (position (bytes_eq id)) (keys-with_value_at records i now) ∙ at,
      subst (λ (o : Option Record). 0 < space_kept o) (sym put.1) (omega (arith, space)),
    )

module _ {S T : Type 0} (maps : Maps S T) (collection : List ℕ) (index : ℕ) (k : List ℕ) (records now : Under S) (entry : slice_get maps.entries index ≡ Some (k, records)) where
  -- the records at the index of a collection are its records
  pub records-found : collection_index (names_of maps) collection ≡ Some index → get_by (bytes_eq collection) maps ≡ Some records
  records-found at = found-at collection maps.entries index k records (sym (collection-place maps collection) ∙ at) entry

  pub records-written : IsUnique bytes_eq maps → collection_index (names_of maps) collection ≡ Some index → WritesThrough bytes_eq (bytes_eq collection) maps now (with_value_at maps index now)
  records-written unique at = writes-at maps collection index records now (sym (collection-place maps collection) ∙ at) (records-found at) unique

  -- a slot of a record in the index
  pub known-under : (id : List ℕ) (own : ℕ) → IsSlotIn maps collection id (Known index own) → (index_under records id ≡ Some own) × (0 < space_under records id)
  known-under id own there =
      let found = records-found there.0 in (
        sym (record-place maps collection id records found) ∙ there.1,
        subst (λ (o : Option (Under S)). 0 < space_kept (record_from o id)) found there.2,
      )

  -- a slot of a new record of a collection in the index
  pub new-under : (id : List ℕ) (new : NewRecord) → IsSlotIn maps collection id (InCollection index new) → (0 < spare records) × (get_by (bytes_eq id) records ≡ None)
  new-under id new there =
      let found = records-found there.0 in (
        subst (λ (o : Option (Under S)). 0 < option_map_or (λ (rs : Under S). spare rs) o 0) found there.2,
        not-there maps collection id records found there.3,
      )

  pub known-added : (id : List ℕ) (own commit : ℕ) → IsUnique bytes_eq maps → IsSlotIn maps collection id (Known index own) →
      ((id' : List ℕ) → index_under records id' ≡ Some own → commits_under now id' ≡ commits_under records id' ++ commit ∷ []) →
      ((id' other : List ℕ) → index_under records id' ≡ Some own → other ≢ id' → commits_under now other ≡ commits_under records other) →
      ((id' : List ℕ) → index_under records id' ≡ Some own → (other : List ℕ) → base_under now other ≡ base_under records other) →
      keys_of now.entries ≡ keys_of records.entries → AddsCommit collection id commit maps (with_value_at maps index now)
  known-added id own commit unique there put stay based ids =
      let under = known-under id own there in
      adds-commit maps (with_value_at maps index now) collection id commit records now (records-found there.0) (records-written unique there.0) (put id under.0) (λ other. stay id other under.0) (based id under.0)
      (λ other. ap (list_any (bytes_eq other)) ids ∙ still-named records id other under.1)

  pub new-added : (commit : ℕ) (new : NewRecord) → IsUnique bytes_eq maps → IsSlotIn maps collection new.id (InCollection index new) → commits_under now new.id ≡ commit ∷ [] →
      ((other : List ℕ) → other ≢ new.id → commits_under now other ≡ commits_under records other) → ((other : List ℕ) → base_under now other ≡ base_under records other) → keys_of now.entries ≡ keys_of records.entries ++ new.id ∷ [] →
      AddsCommit collection new.id commit maps (with_value_at maps index now)
  new-added commit new unique there put stay based ids =
      let none = (new-under new.id new there).1 in
      adds-commit maps (with_value_at maps index now) collection new.id commit records now (records-found there.0) (records-written unique there.0)
      (put ∙ ap (λ (o : Option Record). commits_kept o ++ commit ∷ []) (sym none)) stay based
      (λ own. ap (list_any (bytes_eq own)) ids ∙ named-last (keys_of records.entries) new.id own)
