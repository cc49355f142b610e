-- What a change of one document does to the rows that satisfy a query.
use Rattle.std.proofs.Common.{◌≡◌, ℕ, List, [], ◌∷◌, ◌++◌, Bool, true, false, not, ◌&&◌, Option, None, Some, inl, inr, Ordering, refl, sym, ap, ◌∙◌, subst, append-nil}
use Rattle.std.specs.List.{filter}
use Rattle.std.specs.Cmp.{IsTotalOrder, decided}
use Rattle.std.specs.Str.{bytes_eq}
use Rattle.std.proofs.lemmas.Bool.{cases_Bool, and_parts}
use Rattle.std.proofs.lemmas.List.Elements.{filter-append}
use Rattle.std.proofs.lemmas.Slice.Eq.{bytes_eq-Decides}
use Rattle.query_core.specs.declared.query.Query.{Query}
use Rattle.query_core.specs.Changes.{is_of, without, list_of, IsChange, placed_if, satisfying, after_change, passes_by, tree_of_row}
use Rattle.query_core.specs.Meaning.{satisfies, satisfies_if}
use Rattle.query_core.specs.Window.{Row, placed, rows_cmp, in_order, matches}
use Rattle.query_core.proofs.Firsts.{in_order-push}
use Rattle.query_core.proofs.Rising.{filters_swap, filter-in_order}
use Rattle.query_core.proofs.RowOrder.{rows_cmp_total}
use Rattle.query_core.proofs.WindowLemmas.{matches_alike}

-- ---- two tests

module _ {X : Type 0} where
  -- what passes the first test passes the second
  filter_within : (t s : X → Bool) → ((x : X) → t x ≡ true → s x ≡ true) → (xs : List X) → filter t (filter s xs) ≡ filter t xs
  filter_within t s h [] = refl
  filter_within t s h (x ∷ xs) =
      elim (cases_Bool (t x)) [
        | inl e ↦ (let f : s x ≡ true = h x e in rw (f, e) (ap (λ l. x ∷ l) (filter_within t s h xs)))
        | inr e ↦ elim (cases_Bool (s x)) [ inl f ↦ rw (f, e) (filter_within t s h xs) | inr f ↦ rw (f, e) (filter_within t s h xs) ]
      ]

  -- what passes the first test does not pass the second
  filter_apart : (t s : X → Bool) → ((x : X) → t x ≡ true → s x ≡ false) → (xs : List X) → filter t (filter s xs) ≡ []
  filter_apart t s h [] = refl
  filter_apart t s h (x ∷ xs) =
      elim (cases_Bool (s x)) [
        | inl f ↦ elim (cases_Bool (t x)) [ inl e ↦ absurd (let g : s x ≡ false = h x e in cc) | inr e ↦ rw (f, e) (filter_apart t s h xs) ]
        | inr f ↦ rw f (filter_apart t s h xs)
      ]

  -- what no item passes leaves all by its opposite
  filter_none : (t : X → Bool) (xs : List X) → filter t xs ≡ [] → filter (λ x. not (t x)) xs ≡ xs
  filter_none t [] e = refl
  filter_none t (x ∷ xs) e =
      elim (cases_Bool (t x)) [
        | inl f ↦ absurd (let g : x ∷ filter t xs ≡ [] = rw f at e in cc)
        | inr f ↦ (let g : filter t xs ≡ [] = rw f at e in rw f (ap (λ l. x ∷ l) (filter_none t xs g)))
      ]

-- ---- ids

bytes_same : (a b : List ℕ) → bytes_eq a b ≡ true → a ≡ b
bytes_same a b = (bytes_eq-Decides a b).0

bytes_turn : (a b : List ℕ) → bytes_eq a b ≡ bytes_eq b a
bytes_turn = (decided bytes_eq bytes_eq-Decides).symm

not_true : (b : Bool) → b ≡ true → not b ≡ false
not_true b e = ap not e

-- a row of one id is of no other
of_one : (id other : List ℕ) → bytes_eq other id ≡ false → (row : Row) → is_of other row ≡ true → is_of id row ≡ false
of_one id other apart row is = subst (λ x. bytes_eq x id ≡ false) (sym (bytes_same row.0 other is)) apart

turned_test : (id : List ℕ) (rows : List Row) → filter (λ (row : Row). bytes_eq id row.0) rows ≡ filter (is_of id) rows
turned_test id rows = let same : ◌≡◌ {A = Row → Bool} (λ row. bytes_eq id row.0) (is_of id) = λ i row. bytes_turn id row.0 i in ap (λ p. filter p rows) same

-- ---- documents after a change

module _ (id : List ℕ) (new : Option Row) (docs others : List Row) (change : IsChange id new docs others) where
  -- the documents of other ids, and the new one behind them
  abbrev base : List Row
  base = without id docs ++ list_of new

  new_is : filter (is_of id) (list_of new) ≡ list_of new
  new_is = ap (filter (is_of id)) (sym change.own) ∙ filter_within (is_of id) (is_of id) (λ row e. e) others ∙ change.own

  own_rows : filter (is_of id) others ≡ filter (is_of id) base
  own_rows =
      change.own
      ∙ sym (
      filter-append (is_of id) (without id docs) (list_of new)
      ∙ ap (λ l. l ++ filter (is_of id) (list_of new)) (filter_apart (is_of id) (λ row. not (is_of id row)) (λ row e. not_true (is_of id row) e) docs)
      ∙ new_is
      )

  other_rows : (other : List ℕ) → bytes_eq other id ≡ false → filter (is_of other) others ≡ filter (is_of other) base
  other_rows other apart =
      change.same other apart
      ∙ sym (
      filter-append (is_of other) (without id docs) (list_of new)
      ∙ ap (λ l. l ++ filter (is_of other) (list_of new)) (filter_within (is_of other) (λ row. not (is_of id row)) (λ row e. ap not (of_one id other apart row e)) docs)
      ∙ ap (λ l. filter (is_of other) docs ++ l) (ap (filter (is_of other)) (sym change.own) ∙ filter_apart (is_of other) (is_of id) (of_one id other apart) others)
      ∙ append-nil (filter (is_of other) docs)
      )

  each_rows : (other : List ℕ) → filter (is_of other) others ≡ filter (is_of other) base
  each_rows other =
      elim (cases_Bool (bytes_eq other id)) [
        | inl e ↦ subst (λ x. filter (is_of x) others ≡ filter (is_of x) base) (sym (bytes_same other id e)) own_rows
        | inr e ↦ other_rows other e
      ]

  same_matches : (q : Query) → matches q others ≡ matches q base
  same_matches q = matches_alike q others base (λ other. turned_test other others ∙ each_rows other ∙ sym (turned_test other base))

-- ---- the rows that satisfy

abbrev passes : Query → Row → Bool
passes q row = satisfies q.filter row.2

-- those of other ids, in order, are those in order that are of other ids
matches_without : (q : Query) (r : Row → Bool) (docs : List Row) → matches q (filter r docs) ≡ filter r (matches q docs)
matches_without q r docs =
    ap (in_order (rows_cmp q.order)) (filters_swap (passes q) r docs) ∙ sym (filter-in_order (rows_cmp q.order) (rows_cmp_total q.order) r (filter (passes q) docs))

-- one document more
matches_push : (q : Query) (docs : List Row) (new : Option Row) → matches q (docs ++ list_of new) ≡ placed_if (rows_cmp q.order) (matches q docs) (satisfying q new)
matches_push q docs None = ap (matches q) (append-nil docs)
matches_push q docs (Some row) =
    ap (in_order (rows_cmp q.order)) (filter-append (passes q) docs (row ∷ []))
    ∙ elim (cases_Bool (passes q row)) [
      | inl e ↦ rw e (in_order-push (rows_cmp q.order) (filter (passes q) docs) row)
      | inr e ↦ rw e (ap (in_order (rows_cmp q.order)) (append-nil (filter (passes q) docs)))
    ]

pub matches_changed : (q : Query) (docs others : List Row) (id : List ℕ) (new : Option Row) → IsChange id new docs others → matches q others ≡ after_change q id new (matches q docs)
matches_changed q docs others id new change =
    same_matches id new docs others change q
    ∙ matches_push q (without id docs) new
    ∙ ap (λ l. placed_if (rows_cmp q.order) l (satisfying q new)) (matches_without q (λ row. not (is_of id row)) docs)

-- ---- changes that pass by

fails_one : (q : Query) (row : Row) → not (satisfies q.filter row.2) ≡ true → satisfies q.filter row.2 ≡ false
fails_one q row e = elim (cases_Bool (satisfies q.filter row.2)) [ inl f ↦ absurd (let g : false ≡ true = rw f at e in cc) | inr f ↦ f ]

none_satisfies : (q : Query) (old : Option Row) → not (satisfies_if q.filter (tree_of_row old)) ≡ true → filter (passes q) (list_of old) ≡ []
none_satisfies q None e = refl
none_satisfies q (Some row) e = let f = fails_one q row e in rw f

not_satisfying : (q : Query) (new : Option Row) → not (satisfies_if q.filter (tree_of_row new)) ≡ true → satisfying q new ≡ None
not_satisfying q None e = refl
not_satisfying q (Some row) e = let f = fails_one q row e in rw f

no_row : (q : Query) (id : List ℕ) (docs : List Row) (old : Option Row) → filter (is_of id) docs ≡ list_of old → not (satisfies_if q.filter (tree_of_row old)) ≡ true → filter (is_of id) (matches q docs) ≡ []
no_row q id docs old is e =
    sym (matches_without q (is_of id) docs) ∙ ap (matches q) is ∙ ap (in_order (rows_cmp q.order)) (none_satisfies q old e)

pub matches_stay : (q : Query) (docs others : List Row) (id : List ℕ) (old new : Option Row) → IsChange id new docs others → filter (is_of id) docs ≡ list_of old
    → passes_by q q.collection (tree_of_row old) (tree_of_row new) ≡ true → matches q others ≡ matches q docs
matches_stay q docs others id old new change is passes_by_it =
    let own : bytes_eq q.collection q.collection ≡ true = (bytes_eq-Decides q.collection q.collection).1 refl in
    let both : (not (satisfies_if q.filter (tree_of_row old)) && not (satisfies_if q.filter (tree_of_row new))) ≡ true = rw own at passes_by_it in
    let (before, after) = and_parts (not (satisfies_if q.filter (tree_of_row old))) (not (satisfies_if q.filter (tree_of_row new))) both in
    matches_changed q docs others id new change
    ∙ ap (placed_if (rows_cmp q.order) (without id (matches q docs))) (not_satisfying q new after)
    ∙ filter_none (is_of id) (matches q docs) (no_row q id docs old is before)
