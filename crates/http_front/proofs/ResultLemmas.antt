-- The texts of results in the pieces in which they are given.
use Rattle.std.proofs.Common.{◌≡◌, ℕ, ◌+◌, ◌<◌, ◌≤◌, List, ◌∷◌, ◌++◌, length, drop, get_or, codes, decimal, sym, ap, ◌∙◌, append_assoc}
use Rattle.std.specs.List.{flat_map, join_by}
use Rattle.std.proofs.lemmas.List.{drop_all, drop_more}
use Rattle.result_kinds.specs.Results.{id_text, object_text}
use Rattle.result_kinds.specs.declared.rows.PrintedRow.{PrintedRow}
use Rattle.http_front.specs.ResultTexts.{object_rest}

-- an object behind a byte, from the start of its document
pub object_behind : (before : List ℕ) (row : PrintedRow) → (before ++ codes "{\"doc\":") ++ object_rest row ≡ before ++ object_text row
object_behind before row = simp append_assoc

-- the start of an object and its rest: with its document, with its id, and its version
pub object_pieces : (start : List ℕ) (row : PrintedRow)
    → start ++ object_rest row ≡ (start ++ row.text) ++ ((codes ",\"id\":\"" ++ row.id) ++ (codes "\",\"version\":" ++ decimal row.version ++ codes "}"))
object_pieces start row = simp append_assoc

-- an id behind a byte
pub id_behind : (before id : List ℕ) → (before ++ codes "\"") ++ (id ++ codes "\"") ≡ before ++ id_text id
id_behind before id = simp append_assoc

module _ {X : Type 0} (f : X → List ℕ) where
  -- a list of one text and others
  pub list_pieces : (x : X) (xs : List X)
      → codes "[" ++ join_by f (codes ",") (x ∷ xs) ++ codes "]" ≡ (codes "[" ++ f x) ++ (flat_map (λ y. codes "," ++ f y) xs ++ codes "]")
  list_pieces x xs = simp append_assoc

  -- what is left of it, with one text less
  pub list_left : (xs : List X) (i : ℕ) (x : X) → i < length xs → x ≡ get_or xs i x
      → flat_map (λ y. codes "," ++ f y) (drop i xs) ++ codes "]" ≡ (codes "," ++ f x) ++ (flat_map (λ y. codes "," ++ f y) (drop (i + 1) xs) ++ codes "]")
  list_left xs i x within is =
      ap (λ ys. flat_map (λ y. codes "," ++ f y) ys ++ codes "]") (drop_more xs i x within ∙ ap (λ y. y ∷ drop (i + 1) xs) (sym is))
      ∙ append_assoc (codes "," ++ f x) (flat_map (λ y. codes "," ++ f y) (drop (i + 1) xs)) (codes "]")

  -- at its end the bracket is left
  pub list_end : (xs : List X) (i : ℕ) → length xs ≤ i → flat_map (λ y. codes "," ++ f y) (drop i xs) ++ codes "]" ≡ codes "]"
  list_end xs i past = ap (λ ys. flat_map (λ y. codes "," ++ f y) ys ++ codes "]") (drop_all i xs past)
