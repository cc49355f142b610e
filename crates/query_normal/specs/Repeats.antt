-- Internal. Paths that are added to an order unless it has them.
use Rattle.std.specs.Prelude.{ℕ, Bool, if◌then◌else◌, List, [], ◌∷◌, ◌++◌}
use Rattle.std.specs.List.{list_any}
use Rattle.query_core.specs.Same.{same_path}
use Rattle.query_core.specs.Window.{Order}

-- whether a path is among those of the items
abbrev pub has_path : Order → List (List ℕ) → Bool
has_path items path = list_any (λ item. same_path item.0 path) items

-- the items with this at the end, unless its path is among theirs
abbrev pub with_path : Order → List (List ℕ) × Bool → Order
with_path items item = if has_path items item.0 then items else items ++ item ∷ []
