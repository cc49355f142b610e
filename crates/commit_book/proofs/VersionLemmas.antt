-- A version is of one document: the change of that number put it.
use Rattle.std.proofs.Common.{◌≡◌, ℕ, zero, suc, List, [], ◌∷◌, Option, Some, None, option_map, slice_get, inl, inr, refl, sym, ap, ◌∙◌}
use Rattle.std.specs.Str.{bytes_eq}
use Rattle.std.specs.List.{AllByRecursion, Contains}
use Rattle.std.proofs.lemmas.Bool.{cases_Bool}
use Rattle.std.proofs.lemmas.List.Elements.{All-from_recursion, All-contains}
use Rattle.q_doc.specs.Tree.{Tree}
use Rattle.commit_book.specs.declared.change.Change.{Change}
use Rattle.commit_book.specs.Documents.{Row, insert_row, without, put_row, docs_after, docs}
use Rattle.commit_book.proofs.OrderLemmas.{less}

-- the row that a change puts, as the commit of a number
abbrev row_put : ℕ → Option Change → Option Row
row_put version (Some change) = option_map (λ t. (change.id, version, t)) change.document
row_put version None = None

-- the row that a commit puts
abbrev row_at : List Change → ℕ → Option Row
row_at journal zero = None
row_at journal (suc n) = row_put (suc n) (slice_get journal n)

-- the commit of its version put the row
abbrev IsPut : List Change → Row → Type 0
IsPut journal row = row_at journal row.1 ≡ Some row

module _ (P : Row → Type 0) where
  insert_all : (new : Row) (rows : List Row) → P new → AllByRecursion P rows → AllByRecursion P (insert_row new rows)
  insert_all new [] p h = (p, tt)
  insert_all new (row ∷ rows) p h = elim (cases_Bool (less new.0 row.0)) [ inl e ↦ rw e (p, h) | inr e ↦ rw e (h.0, insert_all new rows p h.1) ]

  without_all : (id : List ℕ) (rows : List Row) → AllByRecursion P rows → AllByRecursion P (without id rows)
  without_all id [] h = tt
  without_all id (row ∷ rows) h = elim (cases_Bool (bytes_eq row.0 id)) [ inl e ↦ rw e (without_all id rows h.1) | inr e ↦ rw e (h.0, without_all id rows h.1) ]

  put_all : (version : ℕ) (id : List ℕ) (document : Option Tree) (rows : List Row) → ((t : Tree) → document ≡ Some t → P (id, version, t)) → AllByRecursion P rows → AllByRecursion P (put_row version id document rows)
  put_all version id None rows p h = without_all id rows h
  put_all version id (Some t) rows p h = insert_all (id, version, t) (without id rows) (p t refl) (without_all id rows h)

-- each row of a collection was put by the commit of its version
docs_put : (journal : List Change) (n : ℕ) (collection : List ℕ) → AllByRecursion (IsPut journal) (docs journal n collection)
docs_put journal zero collection = tt
docs_put journal (suc n) collection = by (slice_get journal n) refl (docs journal n collection) (docs_put journal n collection)
  where
    put : (change : Change) → slice_get journal n ≡ Some change → (t : Tree) → change.document ≡ Some t → IsPut journal (change.id, suc n, t)
    put change at t document = ap (row_put (suc n)) at ∙ ap (option_map (λ (t : Tree). (change.id, suc n, t))) document

    by : (change : Option Change) → slice_get journal n ≡ change → (rows : List Row) → AllByRecursion (IsPut journal) rows → AllByRecursion (IsPut journal) (docs_after collection (suc n) change rows)
    by None at rows h = h
    by (Some change) at rows h = elim (cases_Bool (bytes_eq change.collection collection)) [
      | inl e ↦ rw e (put_all (IsPut journal) (suc n) change.id change.document rows (put change at) h)
      | inr e ↦ rw e h
    ]

-- so rows of one version are one row
pub one_document : (journal : List Change) (n m : ℕ) (collection : List ℕ) (x y : Row) → Contains (docs journal n collection) x → Contains (docs journal m collection) y → x.1 ≡ y.1 → x ≡ y
one_document journal n m collection x y in_x in_y same =
    let p = All-contains (IsPut journal) (docs journal n collection) x (All-from_recursion (IsPut journal) (docs journal n collection) (docs_put journal n collection)) in_x in
    let q = All-contains (IsPut journal) (docs journal m collection) y (All-from_recursion (IsPut journal) (docs journal m collection) (docs_put journal m collection)) in_y in
    let e : Some x ≡ Some y = sym p ∙ ap (row_at journal) same ∙ q in
    cc
