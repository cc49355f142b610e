-- Internal. Lines of a head as they are written.
use Rattle.std.specs.Prelude.{ℕ, List, [], ◌++◌, Option, Some, None, decimal}

-- a number between two texts, where there is one
abbrev pub number_line : List ℕ → Option ℕ → List ℕ → List ℕ
number_line name None end = []
number_line name (Some n) end = (name ++ decimal n) ++ end
