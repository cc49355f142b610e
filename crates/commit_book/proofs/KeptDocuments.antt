-- The kept rows have the documents that the journal has from the horizon on.
use Rattle.std.proofs.Common.{◌≡◌, ℕ, zero, suc, ◌+◌, ◌≤◌, true, false, List, [], ◌∷◌, ◌++◌, take, drop, filter, length, Option, Some, None, option_map, slice_get, refl, sym, ap, ◌∙◌, arith, inl, inr}
use Rattle.std.proofs.lemmas.Bool.{cases_Bool}
use Rattle.std.proofs.lemmas.List.{take_all}
use Rattle.std.proofs.lemmas.List.Elements.{filter-append}
use mathlib.Core.List.{append-nil}
use Rattle.q_doc.specs.Tree.{Tree}
use Rattle.commit_book.specs.declared.change.Change.{Change}
use Rattle.commit_book.specs.Documents.{list_of}
use Rattle.commit_book.specs.Journal.{is_of, put_at, document_after, document_at, bases, kept_rows}
use Rattle.commit_book.proofs.GrowLemmas.{document_prefix}
use Rattle.commit_book.proofs.IndexLemmas.{slice_get_drop}
use Rattle.commit_book.proofs.KeptLemmas.{base_of, put_change, take_end, take_next}

-- the document without its number
abbrev tree_of : Option (ℕ × Tree) → Option Tree
tree_of found = option_map (λ d. d.1) found

-- what the last change puts
abbrev last_put : List Change → Option Tree
last_put [] = None
last_put (x ∷ []) = x.document
last_put (x ∷ y ∷ xs) = last_put (y ∷ xs)

last_put-push : (xs : List Change) (x : Change) → last_put (xs ++ x ∷ []) ≡ x.document
last_put-push [] x = refl
last_put-push (y ∷ []) x = refl
last_put-push (y ∷ z ∷ xs) x = last_put-push (z ∷ xs) x

tree_put : (commit : ℕ) (document : Option Tree) → tree_of (put_at commit document) ≡ document
tree_put commit None = refl
tree_put commit (Some tree) = refl

slice_get_behind : {X : Type 0} (xs ys : List X) (k : ℕ) → slice_get (xs ++ ys) (k + length xs) ≡ slice_get ys k
slice_get_behind [] ys k = (let same : k + 0 ≡ k = omega arith in ap (slice_get ys) same)
slice_get_behind (x ∷ xs) ys k = (let next : k + suc (length xs) ≡ suc (k + length xs) = omega arith in ap (slice_get (x ∷ xs ++ ys)) next ∙ slice_get_behind xs ys k)

module _ (collection id : List ℕ) where
  -- the document is that of the last change of the record
  last_is : (rows : List Change) (n : ℕ) → tree_of (document_at rows n collection id) ≡ last_put (filter (is_of collection id) (take n rows))
  last_is rows zero = refl
  last_is rows (suc n) = by (slice_get rows n) refl (last_is rows n)
    where
      by : (change : Option Change) → slice_get rows n ≡ change → tree_of (document_at rows n collection id) ≡ last_put (filter (is_of collection id) (take n rows)) →
          tree_of (document_after collection id (suc n) change (document_at rows n collection id)) ≡ last_put (filter (is_of collection id) (take (suc n) rows))
      by None e before = before ∙ sym (ap (λ (xs : List Change). last_put (filter (is_of collection id) xs)) (take_end rows n e))
      by (Some change) e before =
          let whole = ap (filter (is_of collection id)) (take_next rows n change e) ∙ filter-append (is_of collection id) (take n rows) (change ∷ []) in
          elim (cases_Bool (is_of collection id change)) [
            | inl own ↦
                rw own
                (tree_put (suc n) change.document
                ∙ sym (last_put-push (filter (is_of collection id) (take n rows)) change)
                ∙ sym (ap last_put (whole ∙ last own)))
            | inr other ↦ rw other (before ∙ sym (ap last_put (whole ∙ none other)))
          ]
        where
          last : is_of collection id change ≡ true → filter (is_of collection id) (take n rows) ++ filter (is_of collection id) (change ∷ []) ≡ filter (is_of collection id) (take n rows) ++ change ∷ []
          last own = rw own refl

          none : is_of collection id change ≡ false → filter (is_of collection id) (take n rows) ++ filter (is_of collection id) (change ∷ []) ≡ filter (is_of collection id) (take n rows)
          none other = rw other (append-nil (filter (is_of collection id) (take n rows)))

module _ (journal : List Change) (horizon : ℕ) (collection id : List ℕ) where
  -- at the horizon
  bases-have : tree_of (document_at (bases (take horizon journal)) (length (bases (take horizon journal))) collection id) ≡ tree_of (document_at journal horizon collection id)
  bases-have =
      last_is collection id (bases (take horizon journal)) (length (bases (take horizon journal)))
      ∙ ap (λ (xs : List Change). last_put (filter (is_of collection id) xs)) (take_all (length (bases (take horizon journal))) (bases (take horizon journal)) (omega arith))
      ∙ ap last_put (base_of journal collection id horizon)
      ∙ by (document_at journal horizon collection id)
    where
      by : (o : Option (ℕ × Tree)) → last_put (list_of (option_map (put_change collection id) o)) ≡ tree_of o
      by None = refl
      by (Some d) = refl

  -- and from there on
  pub documents-kept : (more : ℕ) → more + horizon ≤ length journal → tree_of (document_at (kept_rows journal horizon) (more + length (bases (take horizon journal))) collection id) ≡ tree_of (document_at journal (more + horizon) collection id)
  documents-kept zero within =
      let none : 0 + length (bases (take horizon journal)) ≡ length (bases (take horizon journal)) = omega arith in
      let start : horizon ≡ 0 + horizon = omega arith in
      ap (λ (n : ℕ). tree_of (document_at (kept_rows journal horizon) n collection id)) none
      ∙ ap tree_of (document_prefix (bases (take horizon journal)) (drop horizon journal) (length (bases (take horizon journal))) collection id (omega arith))
      ∙ bases-have
      ∙ ap (λ (n : ℕ). tree_of (document_at journal n collection id)) start
  documents-kept (suc more) within =
      let left : suc more + length (bases (take horizon journal)) ≡ suc (more + length (bases (take horizon journal))) = omega arith in
      let right : suc (more + horizon) ≡ suc more + horizon = omega arith in
      let row = slice_get_behind (bases (take horizon journal)) (drop horizon journal) more ∙ slice_get_drop journal horizon more in
      ap (λ (n : ℕ). tree_of (document_at (kept_rows journal horizon) n collection id)) left
      ∙ ap (λ (o : Option Change). tree_of (document_after collection id (suc (more + length (bases (take horizon journal)))) o (document_at (kept_rows journal horizon) (more + length (bases (take horizon journal))) collection id))) row
      ∙ by (slice_get journal (more + horizon)) (documents-kept more (omega arith))
      ∙ ap (λ (n : ℕ). tree_of (document_at journal n collection id)) right
    where
      by : (change : Option Change) → tree_of (document_at (kept_rows journal horizon) (more + length (bases (take horizon journal))) collection id) ≡ tree_of (document_at journal (more + horizon) collection id) →
          tree_of (document_after collection id (suc (more + length (bases (take horizon journal)))) change (document_at (kept_rows journal horizon) (more + length (bases (take horizon journal))) collection id))
          ≡ tree_of (document_after collection id (suc (more + horizon)) change (document_at journal (more + horizon) collection id))
      by None before = before
      by (Some change) before =
          elim (cases_Bool (is_of collection id change)) [
            | inl own ↦ rw own (tree_put (suc (more + length (bases (take horizon journal)))) change.document ∙ sym (tree_put (suc (more + horizon)) change.document))
            | inr other ↦ rw other before
          ]
