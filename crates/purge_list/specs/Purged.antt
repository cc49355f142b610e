-- Internal. Purged keys and their numbers.
use Rattle.std.specs.Prelude.{ℕ, ◌-◌, List, take, drop}
use Rattle.std.specs.Ordering.{nat_cmp}
use Rattle.std.specs.declared.cmp.Ordering.{Ordering}
use Rattle.std.specs.Cmp.Lexicographic.{slice_cmp}
use Rattle.query_normal.specs.declared.key.KeyShape.{KeyShape}
use Rattle.query_normal.specs.Keys.{key_text}

-- the texts of the purged keys in order, and the number of keys that can be added without memory
pub record Purged : Type 0 where
  pub texts : List (List ℕ)
  pub spare : ℕ

-- the first `count` texts from a number on, or all where there are fewer; the first text has number 1
abbrev pub texts_from : ℕ → ℕ → List (List ℕ) → List (List ℕ)
texts_from number count texts = take count (drop (number - 1) texts)

-- the byte order of the texts of keys
abbrev pub text_cmp : KeyShape → KeyShape → Ordering
text_cmp a b = slice_cmp nat_cmp (key_text a) (key_text b)
