-- Internal. The order of texts by the first bytes that differ.
use Rattle.std.specs.Prelude.{◌≡◌, ℕ, ◌==◌, Bool, false, ◌&&◌, if◌then◌else◌, List, [], ◌∷◌, ◌++◌, length, drop}
use Rattle.std.specs.Ordering.{nat_cmp}
use Rattle.std.specs.declared.cmp.Ordering.{Ordering}
use Rattle.std.specs.declared.cmp.Ordering.TheVariants.{Equal}
use Rattle.query_core.specs.Filters.{Filter, compared}
use Rattle.query_core.specs.Same.{same_op, same_path}

-- a text begins with these bytes
abbrev pub Begins : List ℕ → List ℕ → Type 0
Begins p t = t ≡ p ++ drop (length p) t

-- the order of the first bytes that differ, where both texts have one
abbrev pub first_difference : List ℕ → List ℕ → Ordering
first_difference [] ys = Equal
first_difference (x ∷ xs) [] = Equal
first_difference (x ∷ xs) (y ∷ ys) = if x == y then first_difference xs ys else nat_cmp x y

-- two comparisons at one path by one operator
abbrev pub are_alike : Filter → Filter → Bool
are_alike (compared p x v) (compared q y w) = same_op x y && same_path p q
are_alike f g = false

-- the first two filters of a list are
abbrev pub begin_alike : List Filter → Bool
begin_alike (f ∷ g ∷ fs) = are_alike f g
begin_alike fs = false
