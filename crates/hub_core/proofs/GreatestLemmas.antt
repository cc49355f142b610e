-- The greatest of the numbers of those elements that pass a test, or 0.
use Rattle.std.proofs.Common.{◌≡◌, ℕ, zero, suc, ◌<◌, ◌≤◌, Bool, true, false, ◌||◌, max, nat_lt, List, [], ◌∷◌, ◌++◌, map, filter, All, if◌then◌else◌, refl, sym, ap, ◌∙◌, arith, inl, inr}
use Rattle.std.specs.List.{list_any}
use Rattle.std.specs.List.Sorted.{IsPermutation}
use Rattle.std.proofs.lemmas.Bool.{cases_Bool, lt-ltb, le-ltb}
use Rattle.std.proofs.lemmas.List.Sorted.{All-permutation, IsPermutation-sym}
use Rattle.hub_model.specs.Until.{greatest}

-- the greatest number of an element that passes
abbrev pub best : {X : Type 0} → (X → ℕ) → (X → Bool) → List X → ℕ
best u p xs = greatest (map u (filter p xs))

pub best-cons : {X : Type 0} (u : X → ℕ) (p : X → Bool) (x : X) (xs : List X) → best u p (x ∷ xs) ≡ max (if p x then u x else 0) (best u p xs)
best-cons u p x xs =
    elim (cases_Bool (p x)) [
      | inl hit ↦ rw hit refl
      | inr other ↦ rw other (let h : best u p xs ≡ max 0 (best u p xs) = omega arith in h)
    ]

-- where it passes, and where it does not
pub best-hit : {X : Type 0} (u : X → ℕ) (p : X → Bool) (x : X) (xs : List X) → p x ≡ true → best u p (x ∷ xs) ≡ max (u x) (best u p xs)
best-hit u p x xs hit = best-cons u p x xs ∙ ap (λ (b : Bool). max (if b then u x else 0) (best u p xs)) hit

pub best-miss : {X : Type 0} (u : X → ℕ) (p : X → Bool) (x : X) (xs : List X) → p x ≡ false → best u p (x ∷ xs) ≡ best u p xs
best-miss u p x xs miss = best-cons u p x xs ∙ ap (λ (b : Bool). max (if b then u x else 0) (best u p xs)) miss ∙ (let h : max 0 (best u p xs) ≡ best u p xs = omega arith in h)

pub best-append : {X : Type 0} (u : X → ℕ) (p : X → Bool) (xs ys : List X) → best u p (xs ++ ys) ≡ max (best u p xs) (best u p ys)
best-append u p [] ys = (let h : best u p ys ≡ max 0 (best u p ys) = omega arith in h)
best-append u p (x ∷ xs) ys =
    let rest = best-append u p xs ys in
    let more = best-cons u p x (xs ++ ys) in
    let first = best-cons u p x xs in
    more ∙ ap (λ (n : ℕ). max (if p x then u x else 0) n) rest ∙ (let h : max (if p x then u x else 0) (max (best u p xs) (best u p ys)) ≡ max (max (if p x then u x else 0) (best u p xs)) (best u p ys) = omega arith in h)
    ∙ ap (λ (n : ℕ). max n (best u p ys)) (sym first)

-- no more than each of them
pub best-le : {X : Type 0} (u : X → ℕ) (p : X → Bool) (n : ℕ) (xs : List X) → All (λ x. p x ≡ true → u x ≤ n) xs → best u p xs ≤ n
best-le u p n [] all = omega arith
best-le u p n (x ∷ xs) all =
    let rest = best-le u p n xs (λ k d low. all (suc k) d (omega (arith, low))) in
    let more = best-cons u p x xs in
    elim (cases_Bool (p x)) [
      | inl hit ↦ (
          let own = all 0 x (omega arith) hit in
          let is = best-hit u p x xs hit in
          omega (arith, rest, own, is))
      | inr other ↦ (
          let is = best-miss u p x xs other in
          omega (arith, rest, is))
    ]

-- and no less
pub best-all : {X : Type 0} (u : X → ℕ) (p : X → Bool) (xs : List X) → All (λ x. p x ≡ true → u x ≤ best u p xs) xs
best-all u p [] k d low hit = absurd (omega (arith, low))
best-all u p (x ∷ xs) zero d low hit =
    let more = best-cons u p x xs in
    let is = best-hit u p x xs hit in
    omega (arith, is)
best-all u p (x ∷ xs) (suc k) d low hit =
    let rest = best-all u p xs k d (omega (arith, low)) hit in
    let more = best-cons u p x xs in
    omega (arith, rest, more)

-- the order does not matter
pub best-permuted : {X : Type 0} (u : X → ℕ) (p : X → Bool) (xs ys : List X) → IsPermutation xs ys → best u p ys ≡ best u p xs
best-permuted u p xs ys perm =
    let there = best-le u p (best u p xs) ys (All-permutation (λ x. p x ≡ true → u x ≤ best u p xs) xs ys perm (best-all u p xs)) in
    let back = best-le u p (best u p ys) xs (All-permutation (λ x. p x ≡ true → u x ≤ best u p ys) ys xs (IsPermutation-sym xs ys perm) (best-all u p ys)) in
    omega (arith, there, back)

-- one passes where the greatest is above what all are above
pub any-best : {X : Type 0} (u : X → ℕ) (p : X → Bool) (c : ℕ) (xs : List X) → All (λ x. c < u x) xs → list_any p xs ≡ nat_lt c (best u p xs)
any-best u p c [] all = sym (le-ltb c 0 (omega arith))
any-best u p c (x ∷ xs) all =
    let rest = any-best u p c xs (λ k d low. all (suc k) d (omega (arith, low))) in
    let more = best-cons u p x xs in
    elim (cases_Bool (p x)) [
      | inl hit ↦ (
          let own = all 0 x (omega arith) in
          let is = best-hit u p x xs hit in
          ap (λ (b : Bool). b || list_any p xs) hit ∙ sym (lt-ltb c (best u p (x ∷ xs)) (omega (arith, is, own))))
      | inr other ↦ ap (λ (b : Bool). b || list_any p xs) other ∙ rest ∙ ap (nat_lt c) (sym (best-miss u p x xs other))
    ]
