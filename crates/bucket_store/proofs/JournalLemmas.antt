-- What is kept of a journal after a further change.
use Rattle.std.proofs.Common.{◌≡◌, ℕ, suc, ◌+◌, ◌≤◌, ◌&&◌, if◌then◌else◌, List, [], ◌∷◌, ◌++◌, length, filter, slice_get, Bool, true, false, not, is_some, Option, None, Some, inl, inr, refl, sym, ap, ◌∙◌, subst, arith}
use Rattle.std.specs.Arc.{arc_value}
use Rattle.std.specs.Map.{lookup}
use Rattle.std.specs.declared.sync.Arc.{Arc}
use Rattle.std.specs.Str.{bytes_eq}
use Rattle.std.proofs.lemmas.Bool.{cases_Bool}
use Rattle.std.proofs.lemmas.List.{length_push}
use Rattle.std.proofs.lemmas.Slice.Eq.{bytes_eq-Decides}
use Rattle.indexmap.specs.IndexMap.{IndexMap, get_by}
use Rattle.q_doc.specs.Tree.{Tree}
use Rattle.commit_book.specs.declared.change.Change.{Change}
use Rattle.commit_book.specs.Documents.{HasDocuments, is_row_of}
use Rattle.commit_book.specs.Journal.{document_after, document_at, put_at}
use Rattle.query_core.specs.declared.query.Query.{Query}
use Rattle.query_core.specs.Window.{Row, window}
use Rattle.bucket_store.specs.Buckets.{Found, HasBuckets, with_document}
use Rattle.bucket_store.specs.Kept.{AreKept, IsKept, last_documents}
use Rattle.bucket_store.proofs.BucketLemmas.{has_same}
use Rattle.bucket_store.proofs.RisingLemmas.{flip}

get_end : {X : Type 0} (xs : List X) (y : X) → slice_get (xs ++ y ∷ []) (length xs) ≡ Some y
get_end [] y = refl
get_end (x ∷ xs) y = get_end xs y

-- a test for nothing that is true
pub none_is : {X : Type 0} (o : Option X) (b : Bool) → is_some o ≡ not b → b ≡ true → o ≡ None
none_is None b e t = refl
none_is (Some x) b e t = absurd (let f : true ≡ false = e ∙ ap not t in cc)

-- more changes leave the documents of earlier commits
abbrev pub Older : Type 0
Older = (journal more : List Change) (n : ℕ) (collection id : List ℕ) → n ≤ length journal → document_at (journal ++ more) n collection id ≡ document_at journal n collection id

and_true : (b : Bool) → (b && true) ≡ b
and_true true = refl
and_true false = refl

and_false : (b : Bool) → (b && false) ≡ false
and_false true = refl
and_false false = refl

module _ (older : Older) (journal : List Change) (change : Change) where
  abbrev later : List Change
  later = journal ++ change ∷ []

  abbrev next : ℕ
  next = suc (length journal)

  -- the last change decides
  last_is : (collection id : List ℕ) → last_documents later collection id ≡ document_after collection id next (Some change) (last_documents journal collection id)
  last_is collection id =
      let size : length later ≡ next = omega (arith, length_push journal change) in
      ap (λ (n : ℕ). document_at later n collection id) size
      ∙ ap (λ (o : Option Change). document_after collection id next o (document_at later (length journal) collection id)) (get_end journal change)
      ∙ ap (document_after collection id next (Some change)) (older journal (change ∷ []) (length journal) collection id (omega arith))

  -- in its own collection it is that of its id
  last_own : (commit : ℕ) → commit ≡ length journal + 1 → (id : List ℕ) → with_document change.id (put_at commit change.document) (last_documents journal change.collection) id ≡ last_documents later change.collection id
  last_own commit e id =
      let number : commit ≡ next = omega (arith, e) in
      let same : bytes_eq change.collection change.collection ≡ true = (bytes_eq-Decides change.collection change.collection).1 refl in
      let test : (bytes_eq change.id id && bytes_eq change.collection change.collection) ≡ bytes_eq change.id id = ap (λ (b : Bool). bytes_eq change.id id && b) same ∙ and_true (bytes_eq change.id id) in
      ap (λ (n : ℕ). if bytes_eq change.id id then put_at n change.document else last_documents journal change.collection id) number
      ∙ ap (λ (b : Bool). if b then put_at next change.document else last_documents journal change.collection id) (sym test)
      ∙ sym (last_is change.collection id)

  -- in another one nothing changes
  last_other : (collection id : List ℕ) → bytes_eq change.collection collection ≡ false → last_documents later collection id ≡ last_documents journal collection id
  last_other collection id e =
      let test : (bytes_eq change.id id && bytes_eq change.collection collection) ≡ false = ap (λ (b : Bool). bytes_eq change.id id && b) e ∙ and_false (bytes_eq change.id id) in
      last_is collection id ∙ ap (λ (b : Bool). if b then put_at next change.document else last_documents journal collection id) test

  module _ {Z : Type 0} where
    kept_other : (collection : List ℕ) (there : Option (Arc (List (List Row)) Z)) → bytes_eq change.collection collection ≡ false → IsKept (last_documents journal collection) there → IsKept (last_documents later collection) there
    kept_other collection None e kept = λ id. last_other collection id e ∙ kept id
    kept_other collection (Some shared) e kept = has_same (last_documents journal collection) (last_documents later collection) (arc_value shared) (λ id. sym (last_other collection id e)) kept

    module _ {S : Type 0} (old new : IndexMap (List ℕ) (Arc (List (List Row)) Z) S) (kept : AreKept journal old)
        (others : (collection : List ℕ) → bytes_eq change.collection collection ≡ false → get_by (bytes_eq collection) new ≡ get_by (bytes_eq collection) old) where
      -- where the collection of the change has its documents, each has its own
      kept_later : IsKept (last_documents later change.collection) (get_by (bytes_eq change.collection) new) → AreKept later new
      kept_later own = record {
        each = λ collection. elim (cases_Bool (bytes_eq change.collection collection)) [
          | inl e ↦
              let same = (bytes_eq-Decides change.collection collection).0 e in
              subst (λ (c : List ℕ). IsKept (last_documents later c) (get_by (bytes_eq c) new)) same own
          | inr e ↦ subst (IsKept (last_documents later collection)) (sym (others collection e)) (kept_other collection (get_by (bytes_eq collection) old) e (kept.each collection))
        ];
      }

      -- its buckets have changed
      pub kept_put : (commit : ℕ) → commit ≡ length journal + 1 → (shared : Arc (List (List Row)) Z) → get_by (bytes_eq change.collection) new ≡ Some shared
          → HasBuckets (with_document change.id (put_at commit change.document) (last_documents journal change.collection)) (arc_value shared) → AreKept later new
      kept_put commit number shared there has =
          kept_later (subst (IsKept (last_documents later change.collection)) (sym there)
          (has_same (with_document change.id (put_at commit change.document) (last_documents journal change.collection)) (last_documents later change.collection) (arc_value shared) (last_own commit number) has))

    -- what is found of a collection without buckets
    pub found_none : {S : Type 0} (old : IndexMap (List ℕ) (Arc (List (List Row)) Z) S) → AreKept journal old → get_by (bytes_eq change.collection) old ≡ None → (id : List ℕ) → last_documents journal change.collection id ≡ None
    found_none old kept absent id = (let k = subst (IsKept (last_documents journal change.collection)) absent (kept.each change.collection) in k id)

    -- it has none before, and a deletion leaves it so
    pub kept_deleted : {S : Type 0} (old : IndexMap (List ℕ) (Arc (List (List Row)) Z) S) → AreKept journal old → get_by (bytes_eq change.collection) old ≡ None → change.document ≡ None → AreKept later old
    kept_deleted old kept absent gone =
        let none : (id : List ℕ) → last_documents later change.collection id ≡ None =
        λ id. sym (last_own (length journal + 1) refl id)
        ∙ ap (λ (d : Option Tree). with_document change.id (put_at (length journal + 1) d) (last_documents journal change.collection) id) gone
        ∙ ap (λ (o : Option (ℕ × Tree)). if bytes_eq change.id id then None else o) (found_none old kept absent id)
        ∙ by (bytes_eq change.id id) in
        kept_later old old kept (λ collection e. refl) (subst (IsKept (last_documents later change.collection)) (sym absent) none)
      where
        by : (b : Bool) → ◌≡◌ {A = Option (ℕ × Tree)} (if b then None else None) None
        by true = refl
        by false = refl

    -- a first document
    pub has_first : {S : Type 0} (old : IndexMap (List ℕ) (Arc (List (List Row)) Z) S) (document : Option (ℕ × Tree)) (buckets : List (List Row)) → AreKept journal old → get_by (bytes_eq change.collection) old ≡ None
        → HasBuckets (with_document change.id document (λ _. None)) buckets → HasBuckets (with_document change.id document (last_documents journal change.collection)) buckets
    has_first old document buckets kept absent has =
        has_same (with_document change.id document (λ _. None)) (with_document change.id document (last_documents journal change.collection)) buckets
        (λ id. ap (λ (o : Option (ℕ × Tree)). if bytes_eq change.id id then document else o) (sym (found_none old kept absent id))) has

-- ---- where nothing was put

-- the same entries
pub kept_entries : {Z S : Type 0} (journal : List Change) (old new : IndexMap (List ℕ) (Arc (List (List Row)) Z) S) → new.entries ≡ old.entries → AreKept journal old → AreKept journal new
kept_entries journal old new same kept = record {
  each = λ collection. subst (λ es. IsKept (last_documents journal collection) (lookup (bytes_eq collection) es)) (sym same) (kept.each collection);
}

-- one collection with the same buckets as before
pub kept_still : {Z S : Type 0} (journal : List Change) (name : List ℕ) (old new : IndexMap (List ℕ) (Arc (List (List Row)) Z) S) (before after : Arc (List (List Row)) Z) → AreKept journal old
    → ((collection : List ℕ) → bytes_eq name collection ≡ false → get_by (bytes_eq collection) new ≡ get_by (bytes_eq collection) old)
    → Some before ≡ get_by (bytes_eq name) old → get_by (bytes_eq name) new ≡ Some after → arc_value after ≡ arc_value before → AreKept journal new
kept_still journal name old new before after kept others was is same =
    let had = subst (IsKept (last_documents journal name)) (sym was) (kept.each name) in
    let has = subst (HasBuckets (last_documents journal name)) (sym same) had in
    let own : IsKept (last_documents journal name) (get_by (bytes_eq name) new) = subst (IsKept (last_documents journal name)) (sym is) has in
    record {
      each = λ collection. elim (cases_Bool (bytes_eq name collection)) [
        | inl e ↦ subst (λ (c : List ℕ). IsKept (last_documents journal c) (get_by (bytes_eq c) new)) ((bytes_eq-Decides name collection).0 e) own
        | inr e ↦ subst (IsKept (last_documents journal collection)) (sym (others collection e)) (kept.each collection)
      ];
    }

-- ---- the window

same_test : (id : List ℕ) → ◌≡◌ {A = Row → Bool} (λ row. bytes_eq id row.0) (is_row_of id)
same_test id i row = flip id row.0 i

-- two lists with the same documents have the same windows
pub same_window : ((q : Query) (rows others : List Row) → ((id : List ℕ) → filter (λ (row : Row). bytes_eq id row.0) rows ≡ filter (λ (row : Row). bytes_eq id row.0) others) → window q rows ≡ window q others)
    → (found : Found) (q : Query) (rows others : List Row) → HasDocuments found rows → HasDocuments found others → window q rows ≡ window q others
same_window depends found q rows others have own =
    depends q rows others
    (λ id.
    ap (λ (test : Row → Bool). filter test rows) (same_test id)
    ∙ have id
    ∙ sym (own id)
    ∙ sym (ap (λ (test : Row → Bool). filter test others) (same_test id)))
