-- Internal. Bodies that are given piece by piece.
use Rattle.std.specs.Prelude.{ℕ, Bool, List, ◌++◌, flat_map, if◌then◌else◌}

-- a head and then the body; to HEAD the head alone
abbrev pub given_text : List ℕ → List ℕ → Bool → List ℕ
given_text head body to_head = if to_head then head else head ++ body

-- parts, one after the other
abbrev pub parts_text : List (List ℕ) → List ℕ
parts_text parts = flat_map (λ part. part) parts
