-- Texts one after another, and their lengths.
use Rattle.std.proofs.Common.{◌≡◌, ℕ, ◌+◌, ◌<◌, List, [], ◌∷◌, ◌++◌, take, drop, length, get_or, codes, sym, ap, ◌∙◌, arith}
use Rattle.std.specs.List.{flat_map, join_by}
use Rattle.std.proofs.lemmas.List.{take_more, drop_more, length-append, append-nil, append_assoc}
use Rattle.std.proofs.lemmas.List.Concat.{flat_map-append}

module _ {X : Type 0} (f : X → List ℕ) where
  -- the first texts, with one more
  pub texts_more : (xs : List X) (i : ℕ) (x : X) → i < length xs → x ≡ get_or xs i x → flat_map f (take (i + 1) xs) ≡ flat_map f (take i xs) ++ f x
  texts_more xs i x within is =
      ap (flat_map f) (take_more xs i x within ∙ ap (λ y. take i xs ++ y ∷ []) (sym is))
      ∙ flat_map-append f (take i xs) (x ∷ []) ∙ ap (λ t. flat_map f (take i xs) ++ t) (append-nil (f x))

  -- what is left, with one text less
  pub texts_left : (xs : List X) (i : ℕ) (x : X) → i < length xs → x ≡ get_or xs i x → length (flat_map f (drop i xs)) ≡ length (f x) + length (flat_map f (drop (i + 1) xs))
  texts_left xs i x within is =
      ap (λ ys. length (flat_map f ys)) (drop_more xs i x within ∙ ap (λ y. y ∷ drop (i + 1) xs) (sym is))
      ∙ length-append (f x) (flat_map f (drop (i + 1) xs))

  -- a list of one text and others
  pub list_length : (x : X) (xs : List X) → length (codes "[" ++ join_by f (codes ",") (x ∷ xs) ++ codes "]") ≡ length (f x) + 2 + length (flat_map (λ y. codes "," ++ f y) xs)
  list_length x xs =
      let rest = flat_map (λ y. codes "," ++ f y) xs in
      omega (arith, length-append (codes "[" ++ (f x ++ rest)) (codes "]"), length-append (f x) rest)

-- a piece, a comma and a text after others
pub comma_assoc : (before written text : List ℕ) → before ++ written ++ codes "," ++ text ≡ before ++ (written ++ (codes "," ++ text))
comma_assoc before written text = append_assoc (before ++ written) (codes ",") text ∙ append_assoc before written (codes "," ++ text)
