-- The documents of a collection are those that its ids have, in order of the ids.
use Rattle.std.proofs.Common.{◌≡◌, ℕ, zero, suc, ◌+◌, List, [], ◌∷◌, ◌++◌, take, Option, Some, None, is_some, option_map, filter, slice_get, true, false, not, ◌&&◌, if◌then◌else◌, inl, inr, refl, sym, ap, ◌∙◌, subst, Bor}
use Rattle.std.specs.Str.{bytes_eq}
use Rattle.std.specs.Map.{keys_of}
use Rattle.indexmap.specs.IndexMap.{IndexMap, get_by}
use Rattle.std.specs.Ordering.{is_lt, nat_cmp}
use Rattle.std.specs.declared.cmp.Ordering.{Ordering}
use Rattle.std.specs.Cmp.{IsStrictWeakOrder}
use Rattle.std.specs.Cmp.Lexicographic.{slice_cmp, nat_list_cmp_total}
use Rattle.std.specs.Fn.{Called}
use Rattle.std.specs.List.{filter_map, cons_option, list_any, AllByRecursion, IsDistinct}
use Rattle.std.specs.List.Sorted.{ties, IsSortedBy, IsStableBy, IsSortedByClosure, IsStableByClosure}
use Rattle.std.proofs.lemmas.Bool.{cases_Bool}
use Rattle.std.proofs.lemmas.List.{take_more}
use Rattle.std.proofs.lemmas.List.Elements.{filter_map-append}
use Rattle.std.proofs.lemmas.Map.Made.{is_some-lookup}
use Rattle.std.proofs.lemmas.Option.{slice_get_within, get_or_from_slice_get, slice_get-map}
use Rattle.std.proofs.lemmas.Fn.{always_returns_same}
use Rattle.std.proofs.lemmas.List.Sorted.{ranks_by, sorted_far}
use Rattle.std.proofs.lemmas.Slice.Eq.{bytes_eq-Decides}
use denote.Param.Members.{Mut}
use Rattle.q_doc.specs.TextOrder.{text_eq_equiv}
use Rattle.q_doc.specs.Tree.{Tree, null}
use Rattle.commit_book.specs.declared.change.Change.{Change}
use Rattle.commit_book.specs.declared.index.Record.{Record}
use Rattle.commit_book.specs.Journal.{put_at, document_after, document_at}
use Rattle.commit_book.specs.Documents.{Row, insert_row, without, put_row, docs_after, docs, list_of, row_of, is_row_of, HasDocuments}
use Rattle.commit_book.specs.Index.{base_kept, commits_kept, document_in, document_under}
use Rattle.commit_book.proofs.OrderLemmas.{less, ranks, Rises, ids_tie, itself, same_from_ids, filter_rises, insert_rises, rises_from_far}

-- ---- in order

pub docs_rise : (journal : List Change) (n : ℕ) (collection : List ℕ) → Rises (docs journal n collection)
docs_rise journal zero collection = tt
docs_rise journal (suc n) collection = by (slice_get journal n) (docs journal n collection) (docs_rise journal n collection)
  where
    put : (id : List ℕ) (document : Option Tree) (rows : List Row) → Rises rows → Rises (put_row (suc n) id document rows)
    put id (Some tree) rows r = insert_rises (id, suc n, tree) (without id rows) (filter_rises (λ row. not (bytes_eq row.0 id)) rows r)
    put id None rows r = filter_rises (λ row. not (bytes_eq row.0 id)) rows r

    by : (change : Option Change) (rows : List Row) → Rises rows → Rises (docs_after collection (suc n) change rows)
    by None rows r = r
    by (Some change) rows r = elim (cases_Bool (bytes_eq change.collection collection)) [ inl e ↦ rw e (put change.id change.document rows r) | inr e ↦ rw e r ]

-- ---- of each id its document

without_own : (id : List ℕ) (rows : List Row) → filter (is_row_of id) (without id rows) ≡ []
without_own id [] = refl
without_own id (row ∷ rows) = elim (cases_Bool (bytes_eq row.0 id)) [ inl e ↦ rw e (without_own id rows) | inr e ↦ rw (e, e) (without_own id rows) ]

without_other : (id gone : List ℕ) (rows : List Row) → bytes_eq gone id ≡ false → filter (is_row_of id) (without gone rows) ≡ filter (is_row_of id) rows
without_other id gone [] h = refl
without_other id gone (row ∷ rows) h =
    elim (cases_Bool (bytes_eq row.0 gone)) [
      | inl e ↦
          let not_own : bytes_eq row.0 id ≡ false = ap (λ (x : List ℕ). bytes_eq x id) ((bytes_eq-Decides row.0 gone).0 e) ∙ h in
          rw (e, not_own) (without_other id gone rows h)
      | inr e ↦ elim (cases_Bool (bytes_eq row.0 id)) [
        | inl f ↦ rw (e, f) (ap (λ (l : List Row). row ∷ l) (without_other id gone rows h))
        | inr f ↦ rw (e, f) (without_other id gone rows h)
      ]
    ]

insert_other : (id : List ℕ) (new : Row) (rows : List Row) → bytes_eq new.0 id ≡ false → filter (is_row_of id) (insert_row new rows) ≡ filter (is_row_of id) rows
insert_other id new [] h = rw h refl
insert_other id new (row ∷ rows) h =
    elim (cases_Bool (less new.0 row.0)) [
      | inl e ↦ rw (e, h) refl
      | inr e ↦ elim (cases_Bool (bytes_eq row.0 id)) [
        | inl f ↦ rw (e, f) (ap (λ (l : List Row). row ∷ l) (insert_other id new rows h))
        | inr f ↦ rw (e, f) (insert_other id new rows h)
      ]
    ]

insert_own : (id : List ℕ) (new : Row) (rows : List Row) → bytes_eq new.0 id ≡ true → filter (is_row_of id) rows ≡ [] → filter (is_row_of id) (insert_row new rows) ≡ new ∷ []
insert_own id new [] h none = rw h refl
insert_own id new (row ∷ rows) h none =
    elim (cases_Bool (bytes_eq row.0 id)) [
      | inl f ↦ absurd (let k : row ∷ filter (is_row_of id) rows ≡ [] = rw f at none in cc)
      | inr f ↦
          let rest : filter (is_row_of id) rows ≡ [] = rw f at none in
          elim (cases_Bool (less new.0 row.0)) [
            | inl e ↦ rw (e, h, f) (ap (λ (l : List Row). new ∷ l) rest)
            | inr e ↦ rw (e, f) (insert_own id new rows h rest)
          ]
    ]

put_holds : (version : ℕ) (own id : List ℕ) (document : Option Tree) (rows : List Row) (before : Option (ℕ × Tree)) → filter (is_row_of id) rows ≡ list_of (row_of id before) →
    filter (is_row_of id) (put_row version own document rows) ≡ list_of (row_of id (if bytes_eq own id then put_at version document else before))
put_holds version own id None rows before h =
    elim (cases_Bool (bytes_eq own id)) [
      | inl e ↦ rw e (subst (λ (x : List ℕ). filter (is_row_of id) (without x rows) ≡ []) (sym ((bytes_eq-Decides own id).0 e)) (without_own id rows))
      | inr e ↦ rw e (without_other id own rows e ∙ h)
    ]
put_holds version own id (Some tree) rows before h =
    elim (cases_Bool (bytes_eq own id)) [
      | inl e ↦
          let same = (bytes_eq-Decides own id).0 e in
          let none = subst (λ (x : List ℕ). filter (is_row_of id) (without x rows) ≡ []) (sym same) (without_own id rows) in
          rw e (insert_own id (own, version, tree) (without own rows) e none ∙ ap (λ (x : List ℕ). (x, version, tree) ∷ []) same)
      | inr e ↦ rw e (insert_other id (own, version, tree) (without own rows) e ∙ without_other id own rows e ∙ h)
    ]

pub docs_hold : (journal : List Change) (n : ℕ) (collection : List ℕ) → HasDocuments (document_at journal n collection) (docs journal n collection)
docs_hold journal zero collection id = refl
docs_hold journal (suc n) collection id = by (slice_get journal n) (docs journal n collection) (document_at journal n collection id) (docs_hold journal n collection id)
  where
    by : (change : Option Change) (rows : List Row) (before : Option (ℕ × Tree)) → filter (is_row_of id) rows ≡ list_of (row_of id before) →
        filter (is_row_of id) (docs_after collection (suc n) change rows) ≡ list_of (row_of id (document_after collection id (suc n) change before))
    by None rows before h = h
    by (Some change) rows before h =
        elim (cases_Bool (bytes_eq change.collection collection)) [
          | inl e ↦ elim (cases_Bool (bytes_eq change.id id)) [
            | inl f ↦ let put = put_holds (suc n) change.id id change.document rows before h in rw (e, f) (rw f at put)
            | inr f ↦ let put = put_holds (suc n) change.id id change.document rows before h in rw (e, f) (rw f at put)
          ]
          | inr e ↦ elim (cases_Bool (bytes_eq change.id id)) [ inl f ↦ rw (e, f) h | inr f ↦ rw (e, f) h ]
        ]

-- ---- the rows of distinct ids

module _ (found : List ℕ → Option (ℕ × Tree)) where
  abbrev rows_of : List (List ℕ) → List Row
  rows_of ids = filter_map (λ id. row_of id (found id)) ids

  -- the rows before others, of one id
  first : (id : List ℕ) (there : Option (ℕ × Tree)) (rows : List Row) → filter (is_row_of id) rows ≡ [] → filter (is_row_of id) (cons_option (row_of id there) rows) ≡ list_of (row_of id there)
  first id None rows h = h
  first id (Some d) rows h = let e = itself id in rw e (ap (λ (l : List Row). (id, d.0, d.1) ∷ l) h)

  behind : (id key : List ℕ) (there : Option (ℕ × Tree)) (rows : List Row) → bytes_eq key id ≡ false → filter (is_row_of id) (cons_option (row_of key there) rows) ≡ filter (is_row_of id) rows
  behind id key None rows h = refl
  behind id key (Some d) rows h = rw h refl

  none_among : (id : List ℕ) (ids : List (List ℕ)) → AllByRecursion (λ y. bytes_eq id y ≡ false) ids → filter (is_row_of id) (rows_of ids) ≡ []
  none_among id [] h = refl
  none_among id (key ∷ ids) h = behind id key (found key) (rows_of ids) (text_eq_equiv.symm key id ∙ h.0) ∙ none_among id ids h.1

  listed : (id : List ℕ) (ids : List (List ℕ)) → IsDistinct bytes_eq ids → filter (is_row_of id) (rows_of ids) ≡ (if list_any (bytes_eq id) ids then list_of (row_of id (found id)) else [])
  unfolding IsDistinct
  listed id [] d = refl
  listed id (key ∷ ids) d =
      elim (cases_Bool (bytes_eq id key)) [
        | inl e ↦
            let same = (bytes_eq-Decides id key).0 e in
            let own = first key (found key) (rows_of ids) (none_among key ids d.0) in
            rw e (subst (λ (x : List ℕ). filter (is_row_of x) (rows_of (key ∷ ids)) ≡ list_of (row_of x (found x))) (sym same) own)
        | inr e ↦ rw e (behind id key (found key) (rows_of ids) (text_eq_equiv.symm key id ∙ e) ∙ listed id ids d.1)
      ]

  -- where an id that is not among them has nothing, all documents are there
  pub documents_listed : (ids : List (List ℕ)) → IsDistinct bytes_eq ids → ((id : List ℕ) → list_any (bytes_eq id) ids ≡ false → found id ≡ None) → HasDocuments found (rows_of ids)
  documents_listed ids d none id =
      elim (cases_Bool (list_any (bytes_eq id) ids)) [
        | inl e ↦ let all = listed id ids d in rw e at all
        | inr e ↦ let all = listed id ids d in let empty = none id e in (rw e at all) ∙ ap (λ (o : Option (ℕ × Tree)). list_of (row_of id o)) (sym empty)
      ]

-- ---- sorted by their ids

-- sorting keeps the documents of each id
ties_are : (id : List ℕ) (rows : List Row) → filter (ties (λ (a b : Row). less a.0 b.0) (id, 0, null)) rows ≡ filter (is_row_of id) rows
ties_are id [] = refl
ties_are id (row ∷ rows) =
    let same : ties (λ (a b : Row). less a.0 b.0) (id, 0, null) row ≡ bytes_eq row.0 id = tie id row.0 in
    elim (cases_Bool (bytes_eq row.0 id)) [
      | inl e ↦ let t : ties (λ (a b : Row). less a.0 b.0) (id, 0, null) row ≡ true = same ∙ e in rw (t, e) (ap (λ (l : List Row). row ∷ l) (ties_are id rows))
      | inr e ↦ let t : ties (λ (a b : Row). less a.0 b.0) (id, 0, null) row ≡ false = same ∙ e in rw (t, e) (ties_are id rows)
    ]
  where
    irreflexive : (x : List ℕ) → less x x ≡ false
    irreflexive x = elim (cases_Bool (less x x)) [ inl e ↦ absurd (let f = ranks.one_way x x e in cc) | inr e ↦ e ]

    tie : (a b : List ℕ) → (not (less a b) && not (less b a)) ≡ bytes_eq b a
    tie a b =
        elim (cases_Bool (bytes_eq b a)) [
          | inl e ↦
              let same = (bytes_eq-Decides b a).0 e in
              let p : less a b ≡ false = ap (less a) same ∙ irreflexive a in
              let q : less b a ≡ false = ap (λ (x : List ℕ). less x a) same ∙ irreflexive a in
              rw (p, q) (sym e)
          | inr e ↦ elim (cases_Bool (less a b)) [
            | inl l ↦ rw l (sym e)
            | inr l ↦ elim (cases_Bool (less b a)) [
              | inl m ↦ rw (l, m) (sym e)
              | inr m ↦ absurd (let t = ids_tie b a m l in cc)
            ]
          ]
        ]

pub sorted_documents : (found : List ℕ → Option (ℕ × Tree)) (rows sorted documents : List Row) → HasDocuments found rows → HasDocuments found documents → Rises documents →
    IsSortedBy (λ (a b : Row). less a.0 b.0) sorted → IsStableBy (λ (a b : Row). less a.0 b.0) rows sorted → sorted ≡ documents
sorted_documents found rows sorted documents has holds rise up stable =
    let by_id : IsStrictWeakOrder (λ (a b : Row). less a.0 b.0) = ranks_by nat_list_cmp_total (λ (row : Row). row.0) in
    same_from_ids sorted documents (rises_from_far sorted (sorted_far (λ (a b : Row). less a.0 b.0) by_id sorted up)) rise
    (λ id. sym (ties_are id sorted) ∙ stable (id, 0, null) ∙ ties_are id rows ∙ has id ∙ sym (holds id))

-- the same of a sort by a closure that compares the ids
pub sorted_by_ids : {F : Type 0} {g : Mut F (Bor Row × (Bor Row × Unit {0})) Ordering} {f : F} (found : List ℕ → Option (ℕ × Tree)) (rows sorted documents : List Row) →
    HasDocuments found rows → HasDocuments found documents → Rises documents → IsSortedByClosure g f sorted → IsStableByClosure g f rows sorted →
    ((a : Bor Row × (Bor Row × Unit {0})) (r : Ordering) (f' : F) → Called g f a r f' → (r ≡ slice_cmp nat_cmp a.0.now.0 a.1.0.now.0) × (f' ≡ f)) → sorted ≡ documents
sorted_by_ids {g = g} {f = f} found rows sorted documents has holds rise up stable h =
    let by_id : IsStrictWeakOrder (λ (a b : Row). less a.0 b.0) = ranks_by nat_list_cmp_total (λ (row : Row). row.0) in
    let answers = always_returns_same g (λ a r. is_lt r ≡ less a.0.now.0 a.1.0.now.0) f (λ a r f' k. (ap is_lt (h a r f' k).0, (h a r f' k).1)) in
    sorted_documents found rows sorted documents has holds rise (up (λ (a b : Row). less a.0 b.0) by_id answers) (stable (λ (a b : Row). less a.0 b.0) by_id answers)

-- ---- the ids of a map

-- one id more
pub listed_more : (h : List ℕ → Option Row) (ids : List (List ℕ)) (n : ℕ) (id : List ℕ) → slice_get ids n ≡ Some id → filter_map h (take (n + 1) ids) ≡ filter_map h (take n ids) ++ list_of (h id)
listed_more h ids n id at =
    ap (filter_map h) (take_more ids n id (slice_get_within ids n id at) ∙ ap (λ (x : List ℕ). take n ids ++ x ∷ []) (get_or_from_slice_get ids n id id at))
    ∙ filter_map-append h (take n ids) (id ∷ [])
    ∙ ap (λ (l : List Row). filter_map h (take n ids) ++ l) (one (h id))
  where
    one : (o : Option Row) → cons_option o [] ≡ list_of o
    one None = refl
    one (Some row) = refl

pub key_at : {X : Type 0} (entries : List (List ℕ × X)) (n : ℕ) (id : List ℕ) (x : X) → slice_get entries n ≡ Some (id, x) → slice_get (keys_of entries) n ≡ Some id
key_at {X = X} entries n id x at = slice_get-map (λ (e : List ℕ × X). e.0) entries n ∙ ap (option_map (λ (e : List ℕ × X). e.0)) at

-- an id that is not among the keys has no document
pub none_under : {S : Type 0} (horizon : ℕ) (rows : List Change) (records : IndexMap (List ℕ) Record S) (n : ℕ) (id : List ℕ) → list_any (bytes_eq id) (keys_of records.entries) ≡ false → document_under horizon rows records n id ≡ None
none_under horizon rows records n id absent = by (get_by (bytes_eq id) records) (is_some-lookup (bytes_eq id) records.entries ∙ absent)
  where
    by : (o : Option Record) → is_some o ≡ false → document_in horizon rows (base_kept o) (commits_kept o) n ≡ None
    by None e = refl
    by (Some record') e = absurd (cc)

pub has_same : (f g : List ℕ → Option (ℕ × Tree)) (rows : List Row) → ((id : List ℕ) → f id ≡ g id) → HasDocuments f rows → HasDocuments g rows
has_same f g rows same has id = has id ∙ ap (λ (o : Option (ℕ × Tree)). list_of (row_of id o)) (same id)
