-- The index and the sum after one change more.
use Rattle.std.proofs.Common.{◌≡◌, ◌≢◌, ℕ, zero, suc, ◌+◌, ◌<◌, ◌≤◌, true, false, List, [], ◌∷◌, ◌++◌, take, drop, Option, Some, length, slice_get, sum_by, refl, sym, ap, ap₂, ◌∙◌, subst, arith, inl, inr}
use Rattle.std.specs.Str.{bytes_eq}
use Rattle.std.proofs.lemmas.Bool.{cases_Bool}
use Rattle.std.proofs.lemmas.List.{append_assoc, length_push}
use Rattle.std.proofs.lemmas.List.Sums.{sum_by-append}
use Rattle.std.proofs.lemmas.Slice.Eq.{bytes_eq-Decides}
use Rattle.commit_book.specs.declared.change.Change.{Change}
use Rattle.commit_book.specs.Journal.{bases, document_after, document_at, cost_of, kept, kept_rows}
use Rattle.commit_book.specs.Documents.{docs_after, docs}
use Rattle.commit_book.specs.Index.{commits_after, commits_of}

slice_get_prefix : {X : Type 0} (xs ys : List X) (k : ℕ) → k < length xs → slice_get (xs ++ ys) k ≡ slice_get xs k
slice_get_prefix [] ys k low = absurd (omega arith)
slice_get_prefix (x ∷ xs) ys zero low = refl
slice_get_prefix (x ∷ xs) ys (suc k) low = slice_get_prefix xs ys k (omega arith)

pub slice_get_end : {X : Type 0} (xs : List X) (y : X) → slice_get (xs ++ y ∷ []) (length xs) ≡ Some y
slice_get_end [] y = refl
slice_get_end (x ∷ xs) y = slice_get_end xs y

take_prefix : {X : Type 0} (xs ys : List X) (k : ℕ) → k ≤ length xs → take k (xs ++ ys) ≡ take k xs
take_prefix xs ys zero within = refl
take_prefix [] ys (suc k) within = absurd (omega arith)
take_prefix (x ∷ xs) ys (suc k) within = ap (λ (zs : List _). x ∷ zs) (take_prefix xs ys k (omega arith))

pub drop_prefix : {X : Type 0} (xs ys : List X) (k : ℕ) → k ≤ length xs → drop k (xs ++ ys) ≡ drop k xs ++ ys
drop_prefix xs ys zero within = refl
drop_prefix [] ys (suc k) within = absurd (omega arith)
drop_prefix (x ∷ xs) ys (suc k) within = drop_prefix xs ys k (omega arith)

-- a further change is kept behind the others
pub kept_rows_more : (journal : List Change) (horizon : ℕ) (change : Change) → horizon ≤ length journal → kept_rows (journal ++ change ∷ []) horizon ≡ kept_rows journal horizon ++ change ∷ []
kept_rows_more journal horizon change within =
    ap₂ (λ (xs ys : List Change). bases xs ++ ys) (take_prefix journal (change ∷ []) horizon within) (drop_prefix journal (change ∷ []) horizon within)
    ∙ sym (append_assoc (bases (take horizon journal)) (drop horizon journal) (change ∷ []))

-- the sum grows by the cost of the change
pub kept_more : (journal : List Change) (horizon : ℕ) (change : Change) → horizon ≤ length journal → kept (journal ++ change ∷ []) horizon ≡ kept journal horizon + cost_of change
kept_more journal horizon change within =
    let whole = ap (sum_by cost_of) (kept_rows_more journal horizon change within) in
    let parts = sum_by-append cost_of (kept_rows journal horizon) (change ∷ []) in
    omega (arith, whole, parts)

-- more rows behind do not touch the commits of the first
pub commits_prefix : (horizon : ℕ) (rows more : List Change) (n : ℕ) (collection id : List ℕ) → n ≤ length rows → commits_of horizon (rows ++ more) n collection id ≡ commits_of horizon rows n collection id
commits_prefix horizon rows more zero collection id within = refl
commits_prefix horizon rows more (suc n) collection id within =
    ap (λ (o : Option Change). commits_after collection id (suc (n + horizon)) o (commits_of horizon (rows ++ more) n collection id)) (slice_get_prefix rows more n (omega arith))
    ∙ ap (commits_after collection id (suc (n + horizon)) (slice_get rows n)) (commits_prefix horizon rows more n collection id (omega arith))

-- nor the documents at them
pub document_prefix : (journal more : List Change) (n : ℕ) (collection id : List ℕ) → n ≤ length journal → document_at (journal ++ more) n collection id ≡ document_at journal n collection id
document_prefix journal more zero collection id within = refl
document_prefix journal more (suc n) collection id within =
    ap (λ (o : Option Change). document_after collection id (suc n) o (document_at (journal ++ more) n collection id)) (slice_get_prefix journal more n (omega arith))
    ∙ ap (document_after collection id (suc n) (slice_get journal n)) (document_prefix journal more n collection id (omega arith))

pub docs_prefix : (journal more : List Change) (n : ℕ) (collection : List ℕ) → n ≤ length journal → docs (journal ++ more) n collection ≡ docs journal n collection
docs_prefix journal more zero collection within = refl
docs_prefix journal more (suc n) collection within =
    ap (λ (o : Option Change). docs_after collection (suc n) o (docs (journal ++ more) n collection)) (slice_get_prefix journal more n (omega arith))
    ∙ ap (docs_after collection (suc n) (slice_get journal n)) (docs_prefix journal more n collection (omega arith))

-- the commits of a record with one row more
commits_pushed : (horizon : ℕ) (rows : List Change) (change : Change) (collection id : List ℕ) →
    commits_of horizon (rows ++ change ∷ []) (length (rows ++ change ∷ [])) collection id ≡ commits_after collection id (suc (length rows + horizon)) (Some change) (commits_of horizon rows (length rows) collection id)
commits_pushed horizon rows change collection id =
    let size : length (rows ++ change ∷ []) ≡ suc (length rows) = omega (arith, length_push rows change) in
    ap (λ (n : ℕ). commits_of horizon (rows ++ change ∷ []) n collection id) size
    ∙ ap (λ (o : Option Change). commits_after collection id (suc (length rows + horizon)) o (commits_of horizon (rows ++ change ∷ []) (length rows) collection id)) (slice_get_end rows change)
    ∙ ap (commits_after collection id (suc (length rows + horizon)) (Some change)) (commits_prefix horizon rows (change ∷ []) (length rows) collection id (omega arith))

differs : (a b : List ℕ) → bytes_eq a b ≡ false → b ≢ a
differs a b e same = absurd (let t : bytes_eq a b ≡ true = (bytes_eq-Decides a b).1 (sym same) in cc)

-- a commit more under the record of the change, and none elsewhere
pub index_more : (horizon : ℕ) (rows : List Change) (change : Change) (old new : List ℕ → List ℕ → List ℕ) →
    ((collection id : List ℕ) → old collection id ≡ commits_of horizon rows (length rows) collection id) →
    new change.collection change.id ≡ old change.collection change.id ++ (length rows + horizon + 1) ∷ [] →
    ((id : List ℕ) → id ≢ change.id → new change.collection id ≡ old change.collection id) →
    ((collection id : List ℕ) → collection ≢ change.collection → new collection id ≡ old collection id) →
    (collection id : List ℕ) → new collection id ≡ commits_of horizon (rows ++ change ∷ []) (length (rows ++ change ∷ [])) collection id
index_more horizon rows change old new was own ids others collection id =
    by ∙ ap (commits_after collection id (suc (length rows + horizon)) (Some change)) (was collection id) ∙ sym (commits_pushed horizon rows change collection id)
  where
    pushed : change.collection ≡ collection → change.id ≡ id → new collection id ≡ old collection id ++ suc (length rows + horizon) ∷ []
    pushed same_collection same_id =
        let next : length rows + horizon + 1 ≡ suc (length rows + horizon) = omega arith in
        subst (λ (c : List ℕ). new c id ≡ old c id ++ suc (length rows + horizon) ∷ []) same_collection
        (subst (λ (i : List ℕ). new change.collection i ≡ old change.collection i ++ suc (length rows + horizon) ∷ []) same_id
        (own ∙ ap (λ (n : ℕ). old change.collection change.id ++ n ∷ []) next))

    by : new collection id ≡ commits_after collection id (suc (length rows + horizon)) (Some change) (old collection id)
    by =
        elim (cases_Bool (bytes_eq change.id id)) [
          | inl same_id ↦ elim (cases_Bool (bytes_eq change.collection collection)) [
            | inl same ↦ rw (same_id, same) (pushed ((bytes_eq-Decides change.collection collection).0 same) ((bytes_eq-Decides change.id id).0 same_id))
            | inr other ↦ rw (same_id, other) (others collection id (differs change.collection collection other))
          ]
          | inr other_id ↦ elim (cases_Bool (bytes_eq change.collection collection)) [
            | inl same ↦
                rw other_id
                (subst (λ (c : List ℕ). new c id ≡ old c id) ((bytes_eq-Decides change.collection collection).0 same) (ids id (differs change.id id other_id)))
            | inr other ↦ rw other_id (others collection id (differs change.collection collection other))
          ]
        ]
