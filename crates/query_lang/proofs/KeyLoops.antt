-- Loops over the bytes of texts of keys, and which bytes are a text.
use Rattle.std.proofs.Common.{◌≡◌, ℕ, ◌+◌, min, ◌<◌, ◌≤◌, true, false, nat_eq, List, ◌∷◌, length, get_or, drop, refl, ap, arith, Some, None, IsUtf8, inl, inr}
use Rattle.std.proofs.lemmas.List.{drop_more, drop_all, length-drop}
use Rattle.std.proofs.lemmas.List.Sums.{common_prefix_len-le}
use Rattle.std.specs.List.{common_prefix_len}
use Rattle.std.proofs.lemmas.Str.{IsUtf8-from_is_utf8, is_utf8-from_IsUtf8}
use Rattle.std.specs.Str.{is_utf8}
use Rattle.query_lang.proofs.Utf8Lemmas.{tested}
use Rattle.query_lang.specs.KeyTexts.{after_byte, is_end, part_len, utf8_text}
use Rattle.query_lang.specs.declared.key_parts.Quoting.{Quoting}

pub utf8_is : (bytes : List ℕ) → IsUtf8 bytes → utf8_text bytes ≡ Some bytes
utf8_is bytes is = let whole = is_utf8-from_IsUtf8 bytes is in rw whole refl

pub utf8_none : (bytes : List ℕ) → ¬ (IsUtf8 bytes) → utf8_text bytes ≡ None
utf8_none bytes none =
    elim (tested (is_utf8 bytes)) [
      | inl whole ↦ absurd (none (IsUtf8-from_is_utf8 bytes whole))
      | inr broken ↦ rw broken refl
    ]

module _ (whole : ℕ) (q : Quoting) (xs : List ℕ) (i : ℕ) (held : whole ≡ i + part_len q (drop i xs)) where
  -- a byte that ends no part
  pub part_on : (r : Quoting) → i < length xs → is_end q (get_or xs i 0) ≡ false → r ≡ after_byte q (get_or xs i 0) → whole ≡ (i + 1) + part_len r (drop (i + 1) xs)
  part_on r within on next =
      let at : part_len q (drop i xs) ≡ part_len q (get_or xs i 0 ∷ drop (i + 1) xs) = ap (part_len q) (drop_more xs i 0 within) in
      let step : part_len q (get_or xs i 0 ∷ drop (i + 1) xs) ≡ 1 + part_len r (drop (i + 1) xs) = rw (on, next) refl in
      omega (arith, held, at, step)

  -- a byte that ends one
  pub part_at : i < length xs → is_end q (get_or xs i 0) ≡ true → i ≡ whole
  part_at within ends =
      let at : part_len q (drop i xs) ≡ part_len q (get_or xs i 0 ∷ drop (i + 1) xs) = ap (part_len q) (drop_more xs i 0 within) in
      let here : part_len q (get_or xs i 0 ∷ drop (i + 1) xs) ≡ 0 = rw ends refl in
      omega (arith, held, at, here)

  -- no byte is left
  pub part_all : length xs ≤ i → i ≡ whole
  part_all past = let none : part_len q (drop i xs) ≡ 0 = ap (part_len q) (drop_all i xs past) in omega (arith, held, none)

-- one of two texts has no byte left
pub common_all : (a b : List ℕ) (i : ℕ) → common_prefix_len nat_eq a b ≡ i + common_prefix_len nat_eq (drop i a) (drop i b) → min (length a) (length b) ≤ i → i ≡ common_prefix_len nat_eq a b
common_all a b i held past =
    let few = common_prefix_len-le nat_eq (drop i a) (drop i b) in
    omega (arith, held, past, few.0, few.1, length-drop i a, length-drop i b)
