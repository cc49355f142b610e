-- The index is right after the first row above the horizon was dropped.
use Rattle.std.proofs.Common.{◌≡◌, ℕ, zero, suc, ◌+◌, ◌-◌, ◌<◌, Bool, true, false, not, ◌&&◌, ◌||◌, if◌then◌else◌, List, [], ◌∷◌, ◌++◌, drop, length, Option, Some, None, is_some, option_map, unwrap_or, slice_get, inl, inr, refl, sym, ap, ap₂, ◌∙◌, subst, arith}
use Rattle.std.specs.List.{list_any}
use Rattle.std.specs.Map.{keys_of}
use Rattle.std.specs.Str.{bytes_eq}
use Rattle.std.proofs.lemmas.Bool.{cases_Bool}
use Rattle.std.proofs.lemmas.Map.Made.{is_some-lookup}
use Rattle.std.proofs.lemmas.Slice.Eq.{bytes_eq-Decides}
use Rattle.std.proofs.lemmas.Option.{slice_get_within}
use mathlib.Core.List.{append-nil}
use Rattle.indexmap.specs.IndexMap.{IndexMap, get_by}
use Rattle.q_doc.specs.Tree.{Tree}
use Rattle.commit_book.specs.declared.change.Change.{Change}
use Rattle.commit_book.specs.declared.index.Record.{Record}
use Rattle.commit_book.specs.declared.row.Reserved.{Reserved}
use Rattle.commit_book.specs.Index.{Rows, base_in, base_kept, commits_after, commits_in, commits_kept, commits_of, freed_by, is_bare, names_of, record_in, DropsIn, IsIndexOf, IsSound}
use Rattle.commit_book.specs.Journal.{is_of, put_at, document_after, document_at, kept, kept_rows}
use Rattle.commit_book.specs.Names.{has_collection, has_record, is_in, AreNamesOf}
use Rattle.commit_book.proofs.KeptLemmas.{any_kept, drop_next, kept_step, names_are, some_in}
use Rattle.commit_book.proofs.IndexLemmas.{slice_get_drop}
use Rattle.commit_book.proofs.NameLemmas.{named, record_from}
use Rattle.commit_book.proofs.OrderLemmas.{itself}

abbrev Under : Type 0 → Type 0
Under S = IndexMap (List ℕ) Record S

abbrev Maps : Type 0 → Type 0 → Type 0
Maps S T = IndexMap (List ℕ) (Under S) T

same_bool : (a b : Bool) → (a ≡ true → b ≡ true) → (b ≡ true → a ≡ true) → a ≡ b
same_bool true b f g = sym (f refl)
same_bool false true f g = g refl
same_bool false false f g = refl

-- ---- commits, the first row apart

after_join : (collection id : List ℕ) (commit : ℕ) (change : Option Change) (xs ys : List ℕ) → commits_after collection id commit change (xs ++ ys) ≡ xs ++ commits_after collection id commit change ys
after_join collection id commit None xs ys = refl
after_join collection id commit (Some change) xs ys =
    elim (cases_Bool (is_of collection id change)) [ inl e ↦ rw e (join xs ys (commit ∷ [])) | inr e ↦ rw e refl ]
  where
    join : (us vs ws : List ℕ) → us ++ vs ++ ws ≡ us ++ (vs ++ ws)
    join [] vs ws = refl
    join (u ∷ us) vs ws = ap (λ (zs : List ℕ). u ∷ zs) (join us vs ws)

pub commits_first : (horizon : ℕ) (row : Change) (rest : List Change) (n : ℕ) (collection id : List ℕ) →
    commits_of horizon (row ∷ rest) (suc n) collection id ≡ commits_after collection id (suc horizon) (Some row) [] ++ commits_of (suc horizon) rest n collection id
commits_first horizon row rest zero collection id =
    let first : suc (0 + horizon) ≡ suc horizon = omega arith in
    ap (λ (k : ℕ). commits_after collection id k (Some row) []) first ∙ sym (append-nil (commits_after collection id (suc horizon) (Some row) []))
commits_first horizon row rest (suc n) collection id =
    let next : suc (suc n + horizon) ≡ suc (n + suc horizon) = omega arith in
    ap (commits_after collection id (suc (suc n + horizon)) (slice_get rest n)) (commits_first horizon row rest n collection id)
    ∙ ap (λ (k : ℕ). commits_after collection id k (slice_get rest n) (commits_after collection id (suc horizon) (Some row) [] ++ commits_of (suc horizon) rest n collection id)) next
    ∙ after_join collection id (suc (n + suc horizon)) (slice_get rest n) (commits_after collection id (suc horizon) (Some row) []) (commits_of (suc horizon) rest n collection id)

-- a record has a commit where a row is of it
commits_any : (horizon : ℕ) (rows : List Change) (collection id : List ℕ) → some_in (commits_of horizon rows (length rows) collection id) ≡ list_any (is_of collection id) rows
commits_any horizon [] collection id = refl
commits_any horizon (row ∷ rest) collection id =
    let size : length (row ∷ rest) ≡ suc (length rest) = omega arith in
    ap (λ (n : ℕ). some_in (commits_of horizon (row ∷ rest) n collection id)) size
    ∙ ap some_in (commits_first horizon row rest (length rest) collection id)
    ∙ elim (cases_Bool (is_of collection id row)) [ inl e ↦ rw e refl | inr e ↦ rw e (commits_any (suc horizon) rest collection id) ]

bare_is : (base : Option (ℕ × Tree)) (commits : List ℕ) → not (is_bare base commits) ≡ (is_some base || some_in commits)
bare_is (Some b) commits = refl
bare_is None [] = refl
bare_is None (x ∷ xs) = refl

-- ---- names

-- a row of a record is of its collection
in_from_of : (collection id : List ℕ) (rows : List Change) → list_any (is_of collection id) rows ≡ true → list_any (is_in collection) rows ≡ true
in_from_of collection id [] e = absurd (cc)
in_from_of collection id (row ∷ rows) e =
    elim (cases_Bool (is_of collection id row)) [
      | inl own ↦ (let name = (names_are collection id row own).0 in let same : is_in collection row ≡ true = ap (λ (c : List ℕ). bytes_eq c collection) name ∙ itself collection in rw same refl)
      | inr other ↦ (let rest : list_any (is_of collection id) rows ≡ true = rw other at e in by (is_in collection row) (in_from_of collection id rows rest))
    ]
  where
    by : (b : Bool) → list_any (is_in collection) rows ≡ true → (b || list_any (is_in collection) rows) ≡ true
    by true h = refl
    by false h = h

-- and a row of a collection is of one of its records
of_from_in : (collection : List ℕ) (rows : List Change) → list_any (is_in collection) rows ≡ true → (id : List ℕ) × (list_any (is_of collection id) rows ≡ true)
of_from_in collection [] e = absurd (cc)
of_from_in collection (row ∷ rows) e =
    elim (cases_Bool (is_in collection row)) [
      | inl own ↦ (row.id, (let same : is_of collection row.id row ≡ true = ap₂ (λ (a b : Bool). a && b) (itself row.id) own in rw same refl))
      | inr other ↦ (
          let rest : list_any (is_in collection) rows ≡ true = rw other at e in
          let found = of_from_in collection rows rest in
          (found.0, by (is_of collection found.0 row) found.0 found.1))
    ]
  where
    by : (b : Bool) (id : List ℕ) → list_any (is_of collection id) rows ≡ true → (b || list_any (is_of collection id) rows) ≡ true
    by true id h = refl
    by false id h = h

module _ {S T : Type 0} (maps : Maps S T) where
  pub collection-there : (collection : List ℕ) → has_collection (names_of maps) collection ≡ is_some (get_by (bytes_eq collection) maps)
  collection-there collection = ap is_some (named maps collection) ∙ by (get_by (bytes_eq collection) maps)
    where
      by : (o : Option (Under S)) → is_some (option_map (λ (rs : Under S). keys_of rs.entries) o) ≡ is_some o
      by None = refl
      by (Some records) = refl

  pub record-there : (collection id : List ℕ) → has_record (names_of maps) collection id ≡ is_some (record_in maps collection id)
  record-there collection id = ap (λ (o : Option (List (List ℕ))). list_any (bytes_eq id) (unwrap_or o [])) (named maps collection) ∙ by (get_by (bytes_eq collection) maps)
    where
      by : (o : Option (Under S)) → list_any (bytes_eq id) (unwrap_or (option_map (λ (rs : Under S). keys_of rs.entries) o) []) ≡ is_some (record_from o id)
      by None = refl
      by (Some records) = sym (is_some-lookup (bytes_eq id) records.entries)

  -- a record that is there is of a collection that is
  there-in : (collection id : List ℕ) → is_some (record_in maps collection id) ≡ true → is_some (get_by (bytes_eq collection) maps) ≡ true
  there-in collection id e = by (get_by (bytes_eq collection) maps) e
    where
      by : (o : Option (Under S)) → is_some (record_from o id) ≡ true → is_some o ≡ true
      by None h = absurd (cc)
      by (Some records) h = refl

  -- names follow from records, where each collection has one
  names-from : (rows : List Change) → ((collection id : List ℕ) → is_some (record_in maps collection id) ≡ list_any (is_of collection id) rows) →
      ((collection : List ℕ) → is_some (get_by (bytes_eq collection) maps) ≡ true → (id : List ℕ) × (is_some (record_in maps collection id) ≡ true)) → AreNamesOf rows (names_of maps)
  names-from rows records filled = record {
    collections = λ collection.
        collection-there collection
        ∙ same_bool (is_some (get_by (bytes_eq collection) maps)) (list_any (is_in collection) rows)
        (λ there. let own = filled collection there in in_from_of collection own.0 rows (sym (records collection own.0) ∙ own.1))
        (λ some. let own = of_from_in collection rows some in there-in collection own.0 (records collection own.0 ∙ own.1));
    records = λ collection id. record-there collection id ∙ records collection id;
  }

-- ---- the index

module _ {S T : Type 0} (horizon : ℕ) (row : Change) (rest journal : List Change) (old new : Maps S T) (at : slice_get journal horizon ≡ Some row) (above : rest ≡ drop (suc horizon) journal)
    (index : IsIndexOf horizon (row ∷ rest) journal old) (drops : DropsIn row.collection row.id (put_at (suc horizon) row.document) old new) where
  -- the record of the row had the row as its first
  had : (collection id : List ℕ) → commits_in old collection id ≡ commits_after collection id (suc horizon) (Some row) [] ++ commits_of (suc horizon) rest (length rest) collection id
  had collection id =
      let size : length (row ∷ rest) ≡ suc (length rest) = omega arith in
      index.commits collection id
      ∙ ap (λ (n : ℕ). commits_of horizon (row ∷ rest) n collection id) size
      ∙ commits_first horizon row rest (length rest) collection id

  stepped : (collection id : List ℕ) → document_at journal (suc horizon) collection id ≡ document_after collection id (suc horizon) (Some row) (document_at journal horizon collection id)
  stepped collection id = ap (λ (o : Option Change). document_after collection id (suc horizon) o (document_at journal horizon collection id)) at

  own-row : is_of row.collection row.id row ≡ true
  own-row = ap₂ (λ (a b : Bool). a && b) (itself row.id) (itself row.collection)

  own-commits : drop 1 (commits_in old row.collection row.id) ≡ commits_of (suc horizon) rest (length rest) row.collection row.id
  own-commits =
      ap (drop 1) (had row.collection row.id)
      ∙ ap (λ (b : Bool). drop 1 ((if b then [] ++ suc horizon ∷ [] else []) ++ commits_of (suc horizon) rest (length rest) row.collection row.id)) own-row

  own-base : put_at (suc horizon) row.document ≡ document_at journal (suc horizon) row.collection row.id
  own-base = sym (stepped row.collection row.id ∙ ap (λ (b : Bool). if b then put_at (suc horizon) row.document else document_at journal horizon row.collection row.id) own-row)

  -- what holds of the record of the row and of each other holds of all
  each : (P : List ℕ → List ℕ → Type 0) → P row.collection row.id → ((collection id : List ℕ) → is_of collection id row ≡ false → P collection id) → (collection id : List ℕ) → P collection id
  each P own other collection id =
      elim (cases_Bool (is_of collection id row)) [
        | inl e ↦ (let names = names_are collection id row e in subst (λ (c : List ℕ). P c id) names.0 (subst (P row.collection) names.1 own))
        | inr e ↦ other collection id e
      ]

  stays : (collection id : List ℕ) → is_of collection id row ≡ false → record_in new collection id ≡ record_in old collection id
  stays collection id e = drops.others collection id e

  commits-now : (collection id : List ℕ) → commits_in new collection id ≡ commits_of (suc horizon) rest (length rest) collection id
  commits-now =
      each (λ collection id. commits_in new collection id ≡ commits_of (suc horizon) rest (length rest) collection id) (drops.commits ∙ own-commits)
      (λ collection id e. (
      ap commits_kept (stays collection id e)
      ∙ had collection id
      ∙ ap (λ (b : Bool). (if b then [] ++ suc horizon ∷ [] else []) ++ commits_of (suc horizon) rest (length rest) collection id) e))

  document-stays : (collection id : List ℕ) → is_of collection id row ≡ false → document_at journal (suc horizon) collection id ≡ document_at journal horizon collection id
  document-stays collection id e = stepped collection id ∙ ap (λ (b : Bool). if b then put_at (suc horizon) row.document else document_at journal horizon collection id) e

  bases-now : (collection id : List ℕ) → base_in new collection id ≡ document_at journal (suc horizon) collection id
  bases-now =
      each (λ collection id. base_in new collection id ≡ document_at journal (suc horizon) collection id) (drops.own ∙ own-base)
      (λ collection id e. ap base_kept (stays collection id e) ∙ index.bases collection id ∙ sym (document-stays collection id e))

  records-now : (collection id : List ℕ) → is_some (record_in new collection id) ≡ list_any (is_of collection id) (kept_rows journal (suc horizon))
  records-now =
      each (λ collection id. is_some (record_in new collection id) ≡ list_any (is_of collection id) (kept_rows journal (suc horizon)))
      (drops.named
      ∙ bare_is (put_at (suc horizon) row.document) (drop 1 (commits_in old row.collection row.id))
      ∙ ap₂ (λ (b : Option (ℕ × Tree)) (xs : List ℕ). is_some b || some_in xs) own-base own-commits
      ∙ ap (λ (b : Bool). is_some (document_at journal (suc horizon) row.collection row.id) || b) (commits_any (suc horizon) rest row.collection row.id ∙ ap (list_any (is_of row.collection row.id)) above)
      ∙ sym (any_kept journal row.collection row.id (suc horizon)))
      (λ collection id e. (
      ap is_some (stays collection id e)
      ∙ sym (record-there old collection id)
      ∙ index.names.records collection id
      ∙ any_kept journal collection id horizon
      ∙ ap₂ (λ (o : Option (ℕ × Tree)) (xs : List Change). is_some o || list_any (is_of collection id) xs) (sym (document-stays collection id e)) (drop_next journal horizon row at)
      ∙ ap (λ (b : Bool). is_some (document_at journal (suc horizon) collection id) || (b || list_any (is_of collection id) (drop (suc horizon) journal))) e
      ∙ sym (any_kept journal collection id (suc horizon))))

  filled-now : (collection : List ℕ) → is_some (get_by (bytes_eq collection) new) ≡ true → (id : List ℕ) × (is_some (record_in new collection id) ≡ true)
  filled-now collection there =
      elim (cases_Bool (bytes_eq row.collection collection)) [ inl own ↦ mine own | inr apart ↦ others apart ]
    where
      mine : bytes_eq row.collection collection ≡ true → (id : List ℕ) × (is_some (record_in new collection id) ≡ true)
      mine own = (
          let same = (bytes_eq-Decides row.collection collection).0 own in
          subst (λ (c : List ℕ). (id : List ℕ) × (is_some (record_in new c id) ≡ true)) same (drops.filled (subst (λ (c : List ℕ). is_some (get_by (bytes_eq c) new) ≡ true) (sym same) there)))

      others : bytes_eq row.collection collection ≡ false → (id : List ℕ) × (is_some (record_in new collection id) ≡ true)
      others apart = (
          let same = drops.apart collection apart in
          let was = of_from_in collection (kept_rows journal horizon) (sym (index.names.collections collection) ∙ collection-there old collection ∙ sym (ap is_some same) ∙ there) in
          (was.0, ap (λ (o : Option (Under S)). is_some (record_from o was.0)) same ∙ sym (record-there old collection was.0) ∙ index.names.records collection was.0 ∙ was.1))

  pub index-dropped : IsIndexOf (suc horizon) rest journal new
  index-dropped = record { commits = commits-now; bases = bases-now; names = names-from new (kept_rows journal (suc horizon)) records-now filled-now }

-- ---- the book

none-reserved : (reserved : Option Reserved) → option_map (λ (r : Reserved). r.row) reserved ≡ None → reserved ≡ None
none-reserved None e = refl
none-reserved (Some r) e = absurd (cc)

module _ {S T : Type 0} (capacity bytes live horizon : ℕ) (rows left : Rows) (row : Change) (journal : List Change) (old : Maps S T) (reserved : Option Reserved)
    (sound : IsSound capacity bytes live horizon rows journal old reserved) (items : rows.items ≡ row ∷ left.items) where
  -- the first row above the horizon is the next commit
  pub row-next : slice_get journal horizon ≡ Some row
  row-next =
      let place : horizon ≡ 0 + horizon = omega arith in
      ap (slice_get journal) place ∙ sym (slice_get_drop journal horizon 0) ∙ ap (λ (xs : List Change). slice_get xs 0) (sym sound.above ∙ items)

  -- it is the first of its record
  pub has-commit : 0 < length (commits_in old row.collection row.id)
  has-commit =
      let index = subst (λ (xs : List Change). IsIndexOf horizon xs journal old) items sound.index in
      let size : length (row ∷ left.items) ≡ suc (length left.items) = omega arith in
      let own : is_of row.collection row.id row ≡ true = ap₂ (λ (a b : Bool). a && b) (itself row.id) (itself row.collection) in
      let all = ap length (
      index.commits row.collection row.id
      ∙ ap (λ (n : ℕ). commits_of horizon (row ∷ left.items) n row.collection row.id) size
      ∙ commits_first horizon row left.items (length left.items) row.collection row.id
      ∙ ap (λ (b : Bool). (if b then [] ++ suc horizon ∷ [] else []) ++ commits_of (suc horizon) left.items (length left.items) row.collection row.id) own) in
      omega (arith, all)

  -- what it frees is part of what is kept
  pub frees : kept journal (suc horizon) + freed_by row (base_in old row.collection row.id) ≡ bytes
  frees =
      ap (λ (o : Option (ℕ × Tree)). kept journal (suc horizon) + freed_by row o) (sound.index.bases row.collection row.id)
      ∙ kept_step journal horizon row row-next
      ∙ sym sound.sum

  pub sound-dropped : (freed : ℕ) (new : Maps S T) → option_map (λ (r : Reserved). r.row) reserved ≡ None → freed ≡ freed_by row (base_in old row.collection row.id) →
      DropsIn row.collection row.id (put_at (horizon + 1) row.document) old new → IsSound capacity (bytes - freed) live (horizon + 1) left journal new reserved
  sound-dropped freed new none is drops =
      let next : suc horizon ≡ horizon + 1 = omega arith in
      let above = sym (ap (drop 1) (sym (sym items ∙ sound.above ∙ drop_next journal horizon row row-next))) in
      let sum = frees in
      let place = slice_get_within journal horizon row row-next in
      subst (λ (o : Option Reserved). IsSound capacity (bytes - freed) live (horizon + 1) left journal new o) (sym (none-reserved reserved none))
      (subst (λ (h : ℕ). IsSound capacity (bytes - freed) live h left journal new None) next (record {
        most = sound.most;
        count = sound.count;
        within = omega (arith, place);
        above = above;
        sum = omega (arith, sum, is);
        newest = sound.newest;
        fits = omega (arith, sound.fits);
        index = index-dropped horizon row left.items journal old new row-next above (subst (λ (xs : List Change). IsIndexOf horizon xs journal old) items sound.index)
            (subst (λ (h : ℕ). DropsIn row.collection row.id (put_at h row.document) old new) (sym next) drops);
        ready = tt;
      }))
