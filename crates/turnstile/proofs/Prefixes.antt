-- Prefixes of lists.
use Rattle.std.proofs.Common.{◌≡◌, ℕ, zero, suc, List, [], ◌∷◌, ◌++◌, length, Bool, true, false, ltb, Some, slice_get, refl, ap, sym, ◌∙◌, append_assoc}
use mathlib.Core.List.{IsPrefix}
use Rattle.turnstile.specs.Views.{longer_if, longer}

-- each list is a prefix of itself
pub prefix_self : {A : Type 0} (xs : List A) → IsPrefix xs xs
prefix_self [] = ([], refl)
prefix_self (x ∷ xs) = (let r = prefix_self xs in r.0, ap (λ ys. x ∷ ys) (prefix_self xs).1)

pub prefix_trans : {A : Type 0} (xs ys zs : List A) → IsPrefix xs ys → IsPrefix ys zs → IsPrefix xs zs
prefix_trans xs ys zs p q = (p.0 ++ q.0, sym (append_assoc xs p.0 q.0) ∙ (ap (λ w. w ++ q.0) p.1 ∙ q.1))

-- an element of a prefix is in the whole list, at the same place
pub prefix_get : {A : Type 0} (xs ys : List A) (k : ℕ) (x : A) → IsPrefix xs ys → slice_get xs k ≡ Some x → slice_get ys k ≡ Some x
prefix_get [] ys k x p h = absurd cc
prefix_get (y ∷ xs) [] k x p h = absurd (cc (p.1))
prefix_get (y ∷ xs) (z ∷ ys) zero x p h = cc (p.1, h)
prefix_get (y ∷ xs) (z ∷ ys) (suc k) x p h = prefix_get xs ys k x (p.0, cc (p.1)) h

-- the longer of two prefixes is a prefix
pub prefix_either : {A : Type 0} (b : Bool) (xs ys zs : List A) → IsPrefix xs zs → IsPrefix ys zs → IsPrefix (longer_if b xs ys) zs
prefix_either true xs ys zs p q = q
prefix_either false xs ys zs p q = p

pub prefix_longer : {A : Type 0} (xs ys zs : List A) → IsPrefix xs zs → IsPrefix ys zs → IsPrefix (longer xs ys) zs
prefix_longer xs ys zs p q = prefix_either (ltb (length xs) (length ys)) xs ys zs p q
