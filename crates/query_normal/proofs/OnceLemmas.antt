-- Lists in order without repeats.
use Rattle.std.proofs.Common.{◌≡◌, Bool, true, false, List, [], ◌∷◌, Ordering, inl, inr, refl, sym, ap, ◌∙◌}
use Rattle.std.specs.Cmp.{IsTotalOrder}
use Rattle.std.specs.List.{AllByRecursion, dedup, dedup_from}
use Rattle.std.proofs.lemmas.Bool.{cases_Bool}
use Rattle.query_core.specs.Window.{in_order}
use Rattle.query_core.proofs.Rising.{Under, Rises, in_order_rises, rises_in_order, in_order_all}
use Rattle.query_normal.specs.Normal.{distinct_after, distinct}

module _ {X : Type 0} (cmp : X → X → Ordering) (total : IsTotalOrder cmp) (same : X → X → Bool) where
  under_after : (z x : X) (ys : List X) → Under cmp total z ys → Under cmp total z (distinct_after same x ys)
  under_after z x [] u = tt
  under_after z x (y ∷ ys) u =
      elim (cases_Bool (same x y)) [ inl e ↦ rw e (under_after z x ys u.1) | inr e ↦ rw e (u.0, under_after z y ys u.1) ]

  rises_after : (x : X) (ys : List X) → Rises cmp total ys → Rises cmp total (distinct_after same x ys)
  rises_after x [] r = tt
  rises_after x (y ∷ ys) r =
      elim (cases_Bool (same x y)) [ inl e ↦ rw e (rises_after x ys r.1) | inr e ↦ rw e (under_after y y ys r.0, rises_after y ys r.1) ]

  rises_distinct : (xs : List X) → Rises cmp total xs → Rises cmp total (distinct same xs)
  rises_distinct [] r = tt
  rises_distinct (x ∷ xs) r = (under_after x x xs r.0, rises_after x xs r.1)

  after_twice : (x : X) (ys : List X) → distinct_after same x (distinct_after same x ys) ≡ distinct_after same x ys
  after_twice x [] = refl
  after_twice x (y ∷ ys) =
      elim (cases_Bool (same x y)) [ inl e ↦ rw e (after_twice x ys) | inr e ↦ rw (e, e) (ap (λ l. y ∷ l) (after_twice y ys)) ]

  distinct_twice : (xs : List X) → distinct same (distinct same xs) ≡ distinct same xs
  distinct_twice [] = refl
  distinct_twice (x ∷ xs) = ap (λ l. x ∷ l) (after_twice x xs)

  -- a list in order without repeats stays so
  pub once_twice : (xs : List X) → distinct same (in_order cmp (distinct same (in_order cmp xs))) ≡ distinct same (in_order cmp xs)
  once_twice xs =
      let kept = distinct same (in_order cmp xs) in
      let rises = rises_distinct (in_order cmp xs) (in_order_rises cmp total xs) in
      ap (distinct same) (sym (rises_in_order cmp total kept kept rises (λ z. refl))) ∙ distinct_twice (in_order cmp xs)

module _ {X : Type 0} (P : X → Type 0) (same : X → X → Bool) where
  after_all : (x : X) (ys : List X) → AllByRecursion P ys → AllByRecursion P (distinct_after same x ys)
  after_all x [] a = tt
  after_all x (y ∷ ys) a =
      elim (cases_Bool (same x y)) [ inl e ↦ rw e (after_all x ys a.1) | inr e ↦ rw e (a.0, after_all y ys a.1) ]

  distinct_all : (xs : List X) → AllByRecursion P xs → AllByRecursion P (distinct same xs)
  distinct_all [] a = tt
  distinct_all (x ∷ xs) a = (a.0, after_all x xs a.1)

  -- what holds of each item holds of each that is kept
  pub once_all : (cmp : X → X → Ordering) (xs : List X) → AllByRecursion P xs → AllByRecursion P (distinct same (in_order cmp xs))
  once_all cmp xs a = distinct_all (in_order cmp xs) (in_order_all P cmp xs a)

-- ---- `dedup`

module _ {X : Type 0} (same : X → X → Bool) (symm : (x y : X) → same x y ≡ same y x) where
  dedup_after : (x : X) (ys : List X) → dedup_from same x ys ≡ x ∷ distinct_after same x ys
  dedup_after x [] = refl
  dedup_after x (y ∷ ys) =
      elim (cases_Bool (same x y)) [
        | inl e ↦ let f : same y x ≡ true = sym (symm x y) ∙ e in rw (e, f) (dedup_after x ys)
        | inr e ↦ let f : same y x ≡ false = sym (symm x y) ∙ e in rw (e, f) (ap (λ l. x ∷ l) (dedup_after y ys))
      ]

  -- std's `dedup` leaves each item once
  pub dedup_distinct : (xs : List X) → dedup same xs ≡ distinct same xs
  dedup_distinct [] = refl
  dedup_distinct (x ∷ xs) = dedup_after x xs
