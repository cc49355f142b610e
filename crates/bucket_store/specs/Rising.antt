-- Internal. Documents in byte order of their ids.
use Rattle.std.specs.Prelude.{◌≡◌, ⊤, List, [], ◌∷◌}
use Rattle.std.specs.Cmp.Lexicographic.{slice_cmp}
use Rattle.std.specs.List.{AllByRecursion}
use Rattle.std.specs.Ordering.{nat_cmp}
use Rattle.std.specs.declared.cmp.Ordering.TheVariants.{Less}
use Rattle.query_core.specs.Window.{Row}

-- the id of the first comes before that of the second
abbrev pub IsBefore : Row → Row → Type 0
IsBefore row later = slice_cmp nat_cmp row.0 later.0 ≡ Less

-- the id of each comes before those of all that are behind it
abbrev pub Rises : List Row → Type 0
Rises [] = ⊤
Rises (row ∷ rows) = AllByRecursion (IsBefore row) rows × Rises rows
