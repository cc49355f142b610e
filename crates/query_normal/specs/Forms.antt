-- Internal. The operands of a filter through its nesting, lists that have the same items, and filters within the limits.
use Rattle.std.specs.Prelude.{◌≡◌, ◌≤◌, Bool, true, false, List, [], ◌∷◌, ◌++◌}
use Rattle.std.specs.List.{list_any}
use Rattle.query_core.specs.Filters.{Filter, every, some, Operands, no_operands, operand, height}
use Rattle.query_core.specs.Limits.{leaves, most_leaves, most_height, IsFilter}
use Rattle.query_normal.specs.Normal.{normal_filter}

-- each item of one is in the other, in any order and any number of times: no test of items tells them apart
abbrev pub SameItems : {X : Type 0} → List X → List X → Type 0
SameItems {X} xs ys = (test : X → Bool) → list_any test xs ≡ list_any test ys

-- a filter of the language, within its limits
abbrev pub IsWithin : Filter → Type 0
IsWithin f = IsFilter f × (leaves f ≤ most_leaves) × (height f ≤ most_height)

abbrev mutual
  -- the normal forms of what an `and` (true) or an `or` (false) joins, at any nesting; of another filter its own
  pub forms : Bool → Filter → List Filter
  forms true (every fs) = forms_of true fs
  forms false (some fs) = forms_of false fs
  forms b f = normal_filter false f ∷ []

  -- those of operands
  pub forms_of : Bool → Operands → List Filter
  forms_of b no_operands = []
  forms_of b (operand f fs) = forms b f ++ forms_of b fs
