-- The names of an index, and what an addition makes of them.
use Rattle.std.proofs.Common.{◌≡◌, ◌≢◌, ℕ, ◌<◌, ◌≤◌, Bool, true, false, ◌&&◌, ◌||◌, List, [], ◌∷◌, ◌++◌, map, position, Option, Some, None, IsSome, is_some, unwrap_or, option_map, cond, refl, sym, ap, ap₂, ◌∙◌, subst, inl, inr, arith, option_and_then}
use Rattle.std.specs.List.{list_any}
use Rattle.std.specs.Map.{keys_of, lookup, set_value}
use Rattle.std.specs.Option.{option_map_or}
use Rattle.std.specs.Str.{bytes_eq}
use Rattle.std.proofs.lemmas.Bool.{cases_Bool}
use Rattle.std.proofs.lemmas.List.Folds.{list_any-append}
use Rattle.std.proofs.Math.Bool.{or-false, and-true}
use Rattle.std.proofs.lemmas.Map.Made.{is_some-lookup, lookup-map_values}
use Rattle.std.proofs.lemmas.Slice.Eq.{bytes_eq-Decides}
use Rattle.indexmap.specs.IndexMap.{IndexMap, get_by, keys, spare, IsUnchanged, UpdatesBy, WritesThrough}
use Rattle.q_doc.specs.TextOrder.{text_eq_equiv}
use Rattle.commit_book.specs.declared.change.Change.{Change}
use Rattle.commit_book.specs.declared.index.Record.{Record}
use Rattle.commit_book.specs.declared.index.Slot.{Slot}
use Rattle.commit_book.specs.declared.index.Slot.TheVariants.{Known, InCollection, InNewCollection}
use Rattle.commit_book.specs.Index.{base_in, base_kept, base_under, commits_kept, commits_under, commits_in, index_under, record_in, space_kept, space_under, names_of, AddsCommit, IsSlotUnder, IsSlotIn, KeepsSpace, KeepsSpaceUnder}
use Rattle.commit_book.specs.Journal.{is_of}
use Rattle.commit_book.specs.Names.{Names, collection_index, has_collection, has_record, is_in, record_index, AreNamesOf, AddsName}

-- a book without a commit has no name
pub no_names : AreNamesOf [] []
no_names = record { collections = λ collection. refl; records = λ collection id. refl }

-- the names with those of a further change
pub names_more : (journal : List Change) (change : Change) (old new : Names) → AreNamesOf journal old → AddsName change.collection change.id old new → AreNamesOf (journal ++ change ∷ []) new
names_more journal change old new were adds = record {
  collections = λ other.
      adds.collections other
      ∙ ap (λ (b : Bool). b || bytes_eq change.collection other) (were.collections other)
      ∙ ap (λ (b : Bool). list_any (is_in other) journal || b) (sym (or-false (bytes_eq change.collection other)))
      ∙ sym (list_any-append (is_in other) journal (change ∷ []));
  records = λ other own.
      adds.records other own
      ∙ ap (λ (b : Bool). b || (bytes_eq change.id own && bytes_eq change.collection other)) (were.records other own)
      ∙ ap (λ (b : Bool). list_any (is_of other own) journal || b) (sym (or-false (bytes_eq change.id own && bytes_eq change.collection other)))
      ∙ sym (list_any-append (is_of other own) journal (change ∷ []));
}

-- an id behind others
pub named-last : (ids : List (List ℕ)) (id own : List ℕ) → list_any (bytes_eq own) (ids ++ id ∷ []) ≡ (list_any (bytes_eq own) ids || bytes_eq id own)
named-last ids id own = list_any-append (bytes_eq own) ids (id ∷ []) ∙ ap (λ (b : Bool). list_any (bytes_eq own) ids || b) (or-false (bytes_eq own id) ∙ text_eq_equiv.symm own id)

-- ---- the maps

abbrev Under : Type 0 → Type 0
Under S = IndexMap (List ℕ) Record S

abbrev Maps : Type 0 → Type 0 → Type 0
Maps S T = IndexMap (List ℕ) (Under S) T

abbrev ids_at : {S : Type 0} → Option (Under S) → List (List ℕ)
ids_at {S} found = unwrap_or (option_map (λ (records : Under S). keys_of records.entries) found) []

-- what is kept of an id of a collection, if that is there
abbrev pub record_from : {S : Type 0} → Option (Under S) → List ℕ → Option Record
record_from {S} found id = option_and_then (λ (records : Under S). get_by (bytes_eq id) records) found

-- nothing, where nothing is there
pub is-none : {X : Type 0} (o : Option X) → is_some o ≡ false → o ≡ None
is-none None h = refl
is-none (Some v) h = absurd (cc)

-- an id with reserved memory has its name
pub still-named : {S : Type 0} (records : Under S) (id own : List ℕ) → 0 < space_under records id → list_any (bytes_eq own) (keys_of records.entries) ≡ (list_any (bytes_eq own) (keys_of records.entries) || bytes_eq id own)
still-named {S} records id own space =
    elim (cases_Bool (bytes_eq id own)) [
      | inl hit ↦ (
          let same : id ≡ own = (bytes_eq-Decides id own).0 hit in
          let there = sym (is_some-lookup (bytes_eq id) records.entries) ∙ is-there (get_by (bytes_eq id) records) space in
          let named : list_any (bytes_eq own) (keys_of records.entries) ≡ true = ap (λ (x : List ℕ). list_any (bytes_eq x) (keys_of records.entries)) (sym same) ∙ there in
          rw named refl)
      | inr miss ↦ rw miss (sym (or-false (list_any (bytes_eq own) (keys_of records.entries))))
    ]
  where
    is-there : (o : Option Record) → 0 < space_kept o → is_some o ≡ true
    is-there None h = absurd (omega arith)
    is-there (Some v) h = refl

-- the names after one collection's records are written
abbrev entry_names : {S : Type 0} → List ℕ × Under S → List ℕ × List (List ℕ)
entry_names e = (e.0, keys_of e.1.entries)

names-set : {S : Type 0} (test : List ℕ → Bool) (es : List (List ℕ × Under S)) (was now : Under S) → lookup test es ≡ Some was → keys_of now.entries ≡ keys_of was.entries →
    map (entry_names {S = S}) (set_value test es now) ≡ map (entry_names {S = S}) es
names-set {S} test [] was now found same = absurd (cc)
names-set {S} test (e ∷ es) was now found same =
    elim (cases_Bool (test e.0)) [
      | inl hit ↦ (
          let is : Some e.1 ≡ Some was = rw hit at found in
          let own : e.1 ≡ was = cc in
          rw hit (ap (λ (ids : List (List ℕ)). (e.0, ids) ∷ map (entry_names {S = S}) es) (same ∙ ap (λ (rs : Under S). keys_of rs.entries) (sym own))))
      | inr miss ↦ (
          let rest : lookup test es ≡ Some was = rw miss at found in
          rw miss (ap (λ (xs : Names). (e.0, keys_of e.1.entries) ∷ xs) (names-set test es was now rest same)))
    ]

names-keys : {S : Type 0} (es : List (List ℕ × Under S)) → keys_of (map (entry_names {S = S}) es) ≡ keys_of es
names-keys [] = refl
names-keys (e ∷ es) = ap (λ (names : List (List ℕ)). e.0 ∷ names) (names-keys es)

-- what holds of what stays, and of what was written, holds under each name
pub written-or-same : {X S : Type 0} (old new : IndexMap (List ℕ) X S) (key : List ℕ) (was now : X) → get_by (bytes_eq key) old ≡ Some was → WritesThrough bytes_eq (bytes_eq key) old now new →
    (q : List ℕ) (P : Option X → Option X → Type 0) → P (get_by (bytes_eq q) old) (get_by (bytes_eq q) old) → P (Some was) (Some now) → P (get_by (bytes_eq q) old) (get_by (bytes_eq q) new)
written-or-same {X} old new key was now found writes q P same changed =
    let put = (writes.3 (subst IsSome (sym found) refl)).0 q in
    elim (cases_Bool (bytes_eq key q)) [
      | inl hit ↦ (
          let is : get_by (bytes_eq q) new ≡ Some now = put ∙ ap (λ (b : Bool). cond b (Some now) (get_by (bytes_eq q) old)) hit in
          let own : key ≡ q = (bytes_eq-Decides key q).0 hit in
          let there : get_by (bytes_eq q) old ≡ Some was = ap (λ (c : List ℕ). get_by (bytes_eq c) old) (sym own) ∙ found in
          subst (λ (o : Option X). P o (get_by (bytes_eq q) new)) (sym there) (subst (P (Some was)) (sym is) changed))
      | inr miss ↦ (
          let is : get_by (bytes_eq q) new ≡ get_by (bytes_eq q) old = put ∙ ap (λ (b : Bool). cond b (Some now) (get_by (bytes_eq q) old)) miss in
          subst (P (get_by (bytes_eq q) old)) (sym is) same)
    ]

module _ {S T : Type 0} where
  -- the names under a collection are the ids of its records
  pub named : (maps : Maps S T) (collection : List ℕ) → lookup (bytes_eq collection) (names_of maps) ≡ option_map (λ (records : Under S). keys_of records.entries) (get_by (bytes_eq collection) maps)
  named maps collection = lookup-map_values (λ (records : Under S). keys_of records.entries) (bytes_eq collection) maps.entries

  pub collection-absent : (maps : Maps S T) (collection : List ℕ) → get_by (bytes_eq collection) maps ≡ None → has_collection (names_of maps) collection ≡ false
  collection-absent maps collection none =
      ap is_some (named maps collection) ∙ ap (λ (o : Option (Under S)). is_some (option_map (λ (records : Under S). keys_of records.entries) o)) none

  pub absent-collection : (maps : Maps S T) (collection : List ℕ) → has_collection (names_of maps) collection ≡ false → get_by (bytes_eq collection) maps ≡ None
  absent-collection maps collection none = by (get_by (bytes_eq collection) maps) (sym (ap is_some (named maps collection)) ∙ none)
    where
      by : (o : Option (Under S)) → is_some (option_map (λ (records : Under S). keys_of records.entries) o) ≡ false → o ≡ None
      by None h = refl
      by (Some records) h = absurd (cc)

  -- whether an id is among the records of a collection that is there
  pub record-named : (maps : Maps S T) (collection id : List ℕ) (records : Under S) → get_by (bytes_eq collection) maps ≡ Some records → has_record (names_of maps) collection id ≡ is_some (get_by (bytes_eq id) records)
  record-named maps collection id records found =
      ap (λ (o : Option (List (List ℕ))). list_any (bytes_eq id) (unwrap_or o [])) (named maps collection ∙ ap (option_map (λ (records : Under S). keys_of records.entries)) found)
      ∙ sym (is_some-lookup (bytes_eq id) records.entries)

  pub not-there : (maps : Maps S T) (collection id : List ℕ) (records : Under S) → get_by (bytes_eq collection) maps ≡ Some records → has_record (names_of maps) collection id ≡ false → get_by (bytes_eq id) records ≡ None
  not-there maps collection id records found absent = is-none (get_by (bytes_eq id) records) (sym (record-named maps collection id records found) ∙ absent)

  -- the index of a name is that of its entry
  pub collection-place : (maps : Maps S T) (collection : List ℕ) → collection_index (names_of maps) collection ≡ position (bytes_eq collection) (keys maps)
  collection-place maps collection = ap (position (bytes_eq collection)) (names-keys maps.entries)

  pub record-place : (maps : Maps S T) (collection id : List ℕ) (records : Under S) → get_by (bytes_eq collection) maps ≡ Some records → record_index (names_of maps) collection id ≡ index_under records id
  record-place maps collection id records found =
      ap (λ (o : Option (List (List ℕ))). position (bytes_eq id) (unwrap_or o [])) (named maps collection ∙ ap (option_map (λ (rs : Under S). keys_of rs.entries)) found)

  -- what is kept of the records that are there
  pub record-at : (maps : Maps S T) (collection id : List ℕ) (records : Under S) → get_by (bytes_eq collection) maps ≡ Some records → record_in maps collection id ≡ get_by (bytes_eq id) records
  record-at maps collection id records found = ap (λ (o : Option (Under S)). record_from o id) found

  pub commits-at : (maps : Maps S T) (collection id : List ℕ) (records : Under S) → get_by (bytes_eq collection) maps ≡ Some records → commits_in maps collection id ≡ commits_under records id
  commits-at maps collection id records found = ap commits_kept (record-at maps collection id records found)

  pub record-none : (maps : Maps S T) (collection id : List ℕ) → has_collection (names_of maps) collection ≡ false → record_in maps collection id ≡ None
  record-none maps collection id absent = ap (λ (o : Option (Under S)). record_from o id) (absent-collection maps collection absent)

  pub commits-none : (maps : Maps S T) (collection id : List ℕ) → has_collection (names_of maps) collection ≡ false → commits_in maps collection id ≡ []
  commits-none maps collection id absent = ap commits_kept (record-none maps collection id absent)

  -- the records of one collection replace those that it had
  adds-name : (old new : Maps S T) (collection id : List ℕ) (records : Under S) →
      ((q : List ℕ) → get_by (bytes_eq q) new ≡ cond (bytes_eq collection q) (Some records) (get_by (bytes_eq q) old)) →
      ((own : List ℕ) → list_any (bytes_eq own) (keys_of records.entries) ≡ (list_any (bytes_eq own) (ids_at (get_by (bytes_eq collection) old)) || bytes_eq id own)) →
      AddsName collection id (names_of old) (names_of new)
  adds-name old new collection id records put ids = record {
    collections = λ q.
        ap is_some (named new q)
        ∙ ap (λ (o : Option (Under S)). is_some (option_map (λ (rs : Under S). keys_of rs.entries) o)) (put q)
        ∙ there (bytes_eq collection q) (get_by (bytes_eq q) old)
        ∙ ap (λ (o : Option (List (List ℕ))). is_some o || bytes_eq collection q) (sym (named old q));
    records = λ q own.
        ap (λ (o : Option (List (List ℕ))). list_any (bytes_eq own) (unwrap_or o [])) (named new q)
        ∙ ap (λ (o : Option (Under S)). list_any (bytes_eq own) (ids_at o)) (put q)
        ∙ by q own
        ∙ ap (λ (o : Option (List (List ℕ))). list_any (bytes_eq own) (unwrap_or o []) || (bytes_eq id own && bytes_eq collection q)) (sym (named old q));
  }
    where
      there : (b : Bool) (o : Option (Under S)) → is_some (option_map (λ (rs : Under S). keys_of rs.entries) (cond b (Some records) o)) ≡ (is_some (option_map (λ (rs : Under S). keys_of rs.entries) o) || b)
      there true None = refl
      there true (Some rs) = refl
      there false None = refl
      there false (Some rs) = refl

      nothing : (a b : Bool) → a ≡ (a || (b && false))
      nothing true b = refl
      nothing false true = refl
      nothing false false = refl

      by : (q own : List ℕ) → list_any (bytes_eq own) (ids_at (cond (bytes_eq collection q) (Some records) (get_by (bytes_eq q) old))) ≡ (list_any (bytes_eq own) (ids_at (get_by (bytes_eq q) old)) || (bytes_eq id own && bytes_eq collection q))
      by q own =
          elim (cases_Bool (bytes_eq collection q)) [
            | inl hit ↦ (
                let same : collection ≡ q = (bytes_eq-Decides collection q).0 hit in
                rw hit
                (ids own
                ∙ ap₂ (λ (c : List ℕ) (b : Bool). list_any (bytes_eq own) (ids_at (get_by (bytes_eq c) old)) || b) same (sym (and-true (bytes_eq id own)))))
            | inr miss ↦ rw miss (nothing (list_any (bytes_eq own) (ids_at (get_by (bytes_eq q) old))) (bytes_eq id own))
          ]

  -- an id that is there already, or is put behind the others
  pub adds-written : (old new : Maps S T) (collection id : List ℕ) (was now : Under S) → get_by (bytes_eq collection) old ≡ Some was → WritesThrough bytes_eq (bytes_eq collection) old now new →
      ((own : List ℕ) → list_any (bytes_eq own) (keys_of now.entries) ≡ (list_any (bytes_eq own) (keys_of was.entries) || bytes_eq id own)) → AddsName collection id (names_of old) (names_of new)
  adds-written old new collection id was now found writes ids =
      adds-name old new collection id now ((writes.3 (subst IsSome (sym found) refl)).0)
      (λ own. ids own ∙ ap (λ (o : Option (Under S)). list_any (bytes_eq own) (ids_at o) || bytes_eq id own) (sym found))

  pub adds-put : (old new : Maps S T) (collection id : List ℕ) (now : Under S) → has_collection (names_of old) collection ≡ false → UpdatesBy bytes_eq (bytes_eq collection) old new (Some now) →
      keys_of now.entries ≡ id ∷ [] → AddsName collection id (names_of old) (names_of new)
  adds-put old new collection id now absent puts ids =
      adds-name old new collection id now puts.0
      (λ own. ap (list_any (bytes_eq own)) ids ∙ or-false (bytes_eq own id) ∙ text_eq_equiv.symm own id ∙ ap (λ (o : Option (Under S)). list_any (bytes_eq own) (ids_at o) || bytes_eq id own) (sym (absent-collection old collection absent)))

  -- ---- what stays

  pub keeps-unchanged : (old new : Maps S T) → IsUnchanged old new → spare old ≤ spare new → KeepsSpace old new
  keeps-unchanged old new same space = record {
    commits = λ collection id. ap commits_kept (kept collection id);
    bases = λ collection id. ap base_kept (kept collection id);
    names = ap (map (entry_names {S = S})) same;
    space = λ collection id. (let e = ap space_kept (kept collection id) in omega (arith, e));
    records = λ collection. (
        let e = ap (λ (es : List (List ℕ × Under S)). option_map_or (λ (records : Under S). spare records) (lookup (bytes_eq collection) es) 0) same in
        omega (arith, e));
    spare = space;
  }
    where
      kept : (collection id : List ℕ) → record_in new collection id ≡ record_in old collection id
      kept collection id = ap (λ (es : List (List ℕ × Under S)). record_from (lookup (bytes_eq collection) es) id) same

  -- the records that were written
  pub written-at : (old new : Maps S T) (collection : List ℕ) (was now : Under S) → get_by (bytes_eq collection) old ≡ Some was → WritesThrough bytes_eq (bytes_eq collection) old now new → get_by (bytes_eq collection) new ≡ Some now
  written-at old new collection was now found writes = (writes.3 (subst IsSome (sym found) refl)).1

  pub keeps-written : (old new : Maps S T) (collection : List ℕ) (was now : Under S) → get_by (bytes_eq collection) old ≡ Some was → WritesThrough bytes_eq (bytes_eq collection) old now new → KeepsSpaceUnder was now → KeepsSpace old new
  keeps-written old new collection was now found writes keeps = record {
    commits = λ q id. (
        written-or-same old new collection was now found writes q (λ (o p : Option (Under S)). commits_kept (record_from p id) ≡ commits_kept (record_from o id)) refl (keeps.commits id));
    bases = λ q id. (
        written-or-same old new collection was now found writes q (λ (o p : Option (Under S)). base_kept (record_from p id) ≡ base_kept (record_from o id)) refl (keeps.bases id));
    names = ap (map (entry_names {S = S})) writes.0 ∙ names-set (bytes_eq collection) old.entries was now found keeps.ids;
    space = λ q id. (
        written-or-same old new collection was now found writes q (λ (o p : Option (Under S)). space_kept (record_from o id) ≤ space_kept (record_from p id)) (omega arith) (keeps.space id));
    records = λ q. (
        written-or-same old new collection was now found writes q (λ (o p : Option (Under S)). option_map_or (λ (rs : Under S). spare rs) o 0 ≤ option_map_or (λ (rs : Under S). spare rs) p 0) (omega arith) keeps.spare);
    spare = (let e = writes.6 in omega (arith, e));
  }

  -- what is reserved stays so
  pub slot-kept : (old new : Maps S T) (collection id : List ℕ) (slot : Slot) → KeepsSpace old new → IsSlotIn old collection id slot → IsSlotIn new collection id slot
  slot-kept old new collection id (Known index own) keeps there = (
    ap (λ (names : Names). collection_index names collection) keeps.names ∙ there.0,
    ap (λ (names : Names). record_index names collection id) keeps.names ∙ there.1,
    (let more = keeps.space collection id in let some = there.2 in omega (arith, more, some)),
  )
  slot-kept old new collection id (InCollection index added) keeps there = (
    ap (λ (names : Names). collection_index names collection) keeps.names ∙ there.0,
    there.1,
    (let more = keeps.records collection in let some = there.2 in omega (arith, more, some)),
    ap (λ (names : Names). has_record names collection id) keeps.names ∙ there.3,
  )
  slot-kept old new collection id (InNewCollection added) keeps there = (
    there.0,
    there.1,
    there.2,
    there.3,
    (let more = keeps.spare in let some = there.4 in omega (arith, more, some)),
    ap (λ (names : Names). has_collection names collection) keeps.names ∙ there.5,
  )

  -- the slot of an id in its collection is its slot in the index
  pub slot-written : (old new : Maps S T) (collection id : List ℕ) (index : ℕ) (was now : Under S) (slot : Slot) → position (bytes_eq collection) (keys old) ≡ Some index → get_by (bytes_eq collection) old ≡ Some was →
      WritesThrough bytes_eq (bytes_eq collection) old now new → IsSlotUnder now index id slot → IsSlotIn new collection id slot
  slot-written old new collection id index was now slot at found writes = by slot
    where
      is : get_by (bytes_eq collection) new ≡ Some now
      is = written-at old new collection was now found writes

      place : collection_index (names_of new) collection ≡ Some index
      place = collection-place new collection ∙ ap (position (bytes_eq collection)) writes.1 ∙ at

      by : (slot : Slot) → IsSlotUnder now index id slot → IsSlotIn new collection id slot
      by (Known own place') there = (
        place ∙ ap Some (sym there.0),
        record-place new collection id now is ∙ there.1,
        subst (λ (o : Option (Under S)). 0 < space_kept (record_from o id)) (sym is) there.2,
      )
      by (InCollection own added) there = (
        place ∙ ap Some (sym there.0),
        there.1,
        subst (λ (o : Option (Under S)). 0 < option_map_or (λ (rs : Under S). spare rs) o 0) (sym is) there.2,
        record-named new collection id now is ∙ ap is_some there.3,
      )
      by (InNewCollection added) there = absurd there

  -- ---- a commit is added

  -- the commits of other collections
  pub others-stay : (old new : Maps S T) (collection : List ℕ) → ((q : List ℕ) → bytes_eq collection q ≡ false → get_by (bytes_eq q) new ≡ get_by (bytes_eq q) old) →
      (collection' id' : List ℕ) → collection' ≢ collection → commits_in new collection' id' ≡ commits_in old collection' id'
  others-stay old new collection stay collection' id' apart =
      elim (cases_Bool (bytes_eq collection collection')) [
        | inl hit ↦ absurd (apart (sym ((bytes_eq-Decides collection collection').0 hit)))
        | inr miss ↦ ap (λ (o : Option (Under S)). commits_kept (record_from o id')) (stay collection' miss)
      ]

  -- a collection that is put has no base
  pub based-put : (old new : Maps S T) (collection : List ℕ) (now : Under S) → has_collection (names_of old) collection ≡ false → UpdatesBy bytes_eq (bytes_eq collection) old new (Some now) →
      ((other : List ℕ) → base_under now other ≡ None) → (q own : List ℕ) → base_in new q own ≡ base_in old q own
  based-put old new collection now absent puts none q own =
      elim (cases_Bool (bytes_eq collection q)) [
        | inl hit ↦ (
            let is : get_by (bytes_eq q) new ≡ Some now = puts.0 q ∙ ap (λ (b : Bool). cond b (Some now) (get_by (bytes_eq q) old)) hit in
            let same : collection ≡ q = (bytes_eq-Decides collection q).0 hit in
            let was : get_by (bytes_eq q) old ≡ None = ap (λ (c : List ℕ). get_by (bytes_eq c) old) (sym same) ∙ absent-collection old collection absent in
            ap (λ (o : Option (Under S)). base_kept (record_from o own)) is ∙ none own ∙ sym (ap (λ (o : Option (Under S)). base_kept (record_from o own)) was))
        | inr miss ↦ ap (λ (o : Option (Under S)). base_kept (record_from o own)) (puts.2 q miss)
      ]

  -- a commit that is added among the records of its collection
  pub adds-commit : (old new : Maps S T) (collection id : List ℕ) (commit : ℕ) (was now : Under S) → get_by (bytes_eq collection) old ≡ Some was → WritesThrough bytes_eq (bytes_eq collection) old now new →
      commits_under now id ≡ commits_under was id ++ commit ∷ [] → ((other : List ℕ) → other ≢ id → commits_under now other ≡ commits_under was other) → ((other : List ℕ) → base_under now other ≡ base_under was other) →
      ((own : List ℕ) → list_any (bytes_eq own) (keys_of now.entries) ≡ (list_any (bytes_eq own) (keys_of was.entries) || bytes_eq id own)) → AddsCommit collection id commit old new
  adds-commit old new collection id commit was now found writes put stay based listed =
      let is = written-at old new collection was now found writes in
      record {
        own = commits-at new collection id now is ∙ put ∙ ap (λ (xs : List ℕ). xs ++ commit ∷ []) (sym (commits-at old collection id was found));
        ids = λ other apart. commits-at new collection other now is ∙ stay other apart ∙ sym (commits-at old collection other was found);
        others = others-stay old new collection ((writes.3 (subst IsSome (sym found) refl)).2);
        bases = λ q own. written-or-same old new collection was now found writes q (λ (o p : Option (Under S)). base_kept (record_from p own) ≡ base_kept (record_from o own)) refl (based own);
        names = adds-written old new collection id was now found writes listed;
      }
