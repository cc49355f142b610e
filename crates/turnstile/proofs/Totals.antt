-- Sums over lists, and how often a number is in one.
use Rattle.std.proofs.Common.{◌≡◌, ◌≢◌, ℕ, zero, suc, ◌+◌, ◌<◌, ◌≤◌, ◌==◌, List, [], ◌∷◌, ◌++◌, set, refl, sym, ap, arith, eq-eqb, ne_eqb}
use mathlib.Core.Option.{some, some-injective, some-ne-none}
use lib.ListN.{get_elem?}
use Rattle.turnstile.specs.Levels.{total, one_if, occurs}

module _ {A : Type 0} (f : A → ℕ) where
  -- the sum where one element is another
  pub total_set : (l : List A) (i : ℕ) (old new : A) → get_elem? l i ≡ some old → total f (set l i new) + f old ≡ total f l + f new
  total_set [] i old new at = absurd (some-ne-none old (sym at))
  total_set (x ∷ xs) zero old new at = let same : f x ≡ f old = ap f (some-injective x old at) in omega (arith, same)
  total_set (x ∷ xs) (suc i) old new at = omega (arith, total_set xs i old new at)

  pub total_same : (l : List A) (i : ℕ) (old new : A) → get_elem? l i ≡ some old → f new ≡ f old → total f (set l i new) ≡ total f l
  total_same l i old new at same = omega (arith, total_set l i old new at, same)

  pub total_snoc : (l : List A) (a : A) → total f (l ++ a ∷ []) ≡ total f l + f a
  total_snoc [] a = omega arith
  total_snoc (x ∷ xs) a = omega (arith, total_snoc xs a)

  pub total_at : (l : List A) (i : ℕ) (a : A) → get_elem? l i ≡ some a → f a ≤ total f l
  total_at [] i a at = absurd (some-ne-none a (sym at))
  total_at (x ∷ xs) zero a at = let same : f x ≡ f a = ap f (some-injective x a at) in omega (arith, same)
  total_at (x ∷ xs) (suc i) a at = omega (arith, total_at xs i a at)

  pub total_none : (l : List A) → ((i : ℕ) (a : A) → get_elem? l i ≡ some a → f a ≡ 0) → total f l ≡ 0
  total_none [] none = refl
  total_none (x ∷ xs) none = omega (arith, none 0 x refl, total_none xs (λ i a at. none (suc i) a at))

pub occurs_append : (n : ℕ) (xs ys : List ℕ) → occurs n (xs ++ ys) ≡ occurs n xs + occurs n ys
occurs_append n [] ys = omega arith
occurs_append n (x ∷ xs) ys = omega (arith, occurs_append n xs ys)

pub occurs_first : (n : ℕ) (xs : List ℕ) → 0 < occurs n (n ∷ xs)
occurs_first n xs = let is : one_if (n == n) ≡ 1 = ap one_if (eq-eqb n n refl) in omega (arith, is)

pub occurs_behind : (n m : ℕ) (xs : List ℕ) → n ≢ m → occurs n (m ∷ xs) ≡ occurs n xs
occurs_behind n m xs ne = let is : one_if (n == m) ≡ 0 = ap one_if (ne_eqb n m ne) in omega (arith, is)
