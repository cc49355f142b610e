-- Connections in the order in which they came, and in that in which they were handed back.
use Rattle.std.proofs.Common.{◌≡◌, ℕ, zero, suc, ◌+◌, ◌<◌, ◌≤◌, List, [], ◌∷◌, ◌++◌, map, length, sym, ap, ◌∙◌, subst, arith, append_assoc, slice_index_or}
use Rattle.std.specs.List.{All, enumerate_from}
use Rattle.std.specs.List.Sorted.{IsPermutation}
use Rattle.std.proofs.lemmas.List.Sorted.{IsPermutation-sym, IsPermutation-cons, IsPermutation-to_front, IsPermutation-append_right, IsPermutation-middle, IsPermutation-trans, All-permutation}
use Rattle.turnstile.specs.Places.{AllOf}

module _ {X : Type 0} (P : X → Type 0) where
  -- what holds of all by recursion holds at each index
  all_at : (xs : List X) → AllOf P xs → (k : ℕ) (d : X) → k < length xs → P (slice_index_or xs k d)
  all_at [] all k d less = absurd (omega (arith, less))
  all_at (x ∷ xs) all zero d less = all.0
  all_at (x ∷ xs) all (suc k) d less = all_at xs all.1 k d (omega (arith, less))

  -- and the other way
  all_from : (xs : List X) → All P xs → AllOf P xs
  all_from [] all = tt
  all_from (x ∷ xs) all = (all 0 x (omega arith), all_from xs (λ k d less. all (suc k) d (omega (arith, less))))

  -- what holds of all holds of them in another order
  pub all_permuted : (xs ys : List X) → IsPermutation xs ys → AllOf P xs → AllOf P ys
  all_permuted xs ys same all = all_from ys (All-permutation P xs ys same (all_at xs all))

module _ {X : Type 0} where
  -- one that was open was handed back behind the others
  pub moves_behind : (came back old new : List X) (x : X) → IsPermutation came (back ++ old) → IsPermutation old (x ∷ new) → IsPermutation came ((back ++ x ∷ []) ++ new)
  moves_behind came back old new x is left =
      let all : IsPermutation came (back ++ x ∷ new) = IsPermutation-trans came (back ++ old) (back ++ x ∷ new) is (IsPermutation-append_right back old (x ∷ new) left) in
      subst (λ (xs : List X). IsPermutation came xs) (sym (append_assoc back (x ∷ []) new)) all

  -- one more came
  pub comes_open : (came back others : List X) (x : X) → IsPermutation came (back ++ others) → IsPermutation (came ++ x ∷ []) (back ++ x ∷ others)
  comes_open came back others x is =
      IsPermutation-trans (came ++ x ∷ []) (x ∷ came) (back ++ x ∷ others) (IsPermutation-to_front came x)
      (IsPermutation-trans (x ∷ came) (x ∷ (back ++ others)) (back ++ x ∷ others) (IsPermutation-cons x came (back ++ others) is) (IsPermutation-sym (back ++ x ∷ others) (x ∷ (back ++ others)) (IsPermutation-middle back x others)))

  -- one of those that are served has left
  pub leaves_open : (waiting old new : List X) (x : X) → IsPermutation old (x ∷ new) → IsPermutation (waiting ++ old) (x ∷ (waiting ++ new))
  leaves_open waiting old new x left = IsPermutation-trans (waiting ++ old) (waiting ++ x ∷ new) (x ∷ (waiting ++ new)) (IsPermutation-append_right waiting old (x ∷ new) left) (IsPermutation-middle waiting x new)

  -- the one that waits is served, behind the others
  pub waits_no_longer : (old new : List X) (x : X) → new ≡ old ++ x ∷ [] → IsPermutation (x ∷ old) new
  waits_no_longer old new x more = subst (λ (xs : List X). IsPermutation (x ∷ old) xs) (sym more) (IsPermutation-sym (old ++ x ∷ []) (x ∷ old) (IsPermutation-to_front old x))

  -- the last of those that are numbered
  pub numbered_last : (n : ℕ) (xs : List X) (x : X) → enumerate_from n (xs ++ x ∷ []) ≡ enumerate_from n xs ++ (n + length xs, x) ∷ []
  numbered_last n [] x = let same : n ≡ n + 0 = omega arith in ap (λ (k : ℕ). (k, x) ∷ []) same
  numbered_last n (y ∷ xs) x =
      let same : (n + 1) + length xs ≡ n + length (y ∷ xs) = omega arith in
      ap (λ (ps : List (ℕ × X)). (n, y) ∷ ps) (numbered_last (n + 1) xs x ∙ ap (λ (k : ℕ). enumerate_from (n + 1) xs ++ (k, x) ∷ []) same)

  -- no number is as great as their count
  pub numbered_below : (n m : ℕ) (xs : List X) → n + length xs ≤ m → AllOf (λ (p : ℕ × X). p.0 < m) (enumerate_from n xs)
  numbered_below n m [] less = tt
  numbered_below n m (x ∷ xs) less = (omega (arith, less), numbered_below (n + 1) m xs (omega (arith, less)))

module _ {X Y : Type 0} (P : Y → Type 0) (f : X → Y) where
  -- what holds of all that is made of a list holds of the list
  pub all_unmapped : (xs : List X) → AllOf P (map f xs) → AllOf (λ x. P (f x)) xs
  all_unmapped [] all = tt
  all_unmapped (x ∷ xs) all = (all.0, all_unmapped xs all.1)

-- what follows from two that hold of all holds of all
pub all_both : {X : Type 0} (P Q R : X → Type 0) → ((x : X) → P x → Q x → R x) → (xs : List X) → AllOf P xs → AllOf Q xs → AllOf R xs
all_both P Q R f [] a b = tt
all_both P Q R f (x ∷ xs) a b = (f x a.0 b.0, all_both P Q R f xs a.1 b.1)
