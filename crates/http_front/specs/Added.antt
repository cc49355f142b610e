-- Internal. What is added to the commits of a list while it is read.
use Rattle.std.specs.Prelude.{◌≡◌, ◌⊎◌, ℕ, false, List, [], ◌++◌, take, Option, Some, None, Result, Ok, Err}
use Rattle.std.specs.List.{filter_map}
use Rattle.http_front.specs.declared.tags.TagRefusal.{TagRefusal}
use Rattle.http_front.specs.declared.tags.TagRefusal.TheVariants.{BadTag, Memory}
use Rattle.http_front.specs.Tags.{Tag, commit_of, pieces_from}
use Rattle.http_front.specs.declared.tags.Comparison.{Comparison}

-- the commits of these tags are added, up to 16, or there is a member that is no tag
abbrev pub Adds : Comparison → Option (List Tag) → List ℕ → List ℕ → Result (Unit {0}) TagRefusal → Type 0
Adds comparison (Some tags) old new result =
    (result ≡ Err Memory) ⊎ ((result ≡ Ok tt) × (new ≡ take 16 (old ++ filter_map (commit_of comparison) tags)))
Adds comparison None old new result = (result ≡ Err Memory) ⊎ (result ≡ Err BadTag)

-- the pieces after a comma, where there is one
abbrev pub pieces_behind : Option (List ℕ) → List (List ℕ)
pieces_behind None = []
pieces_behind (Some rest) = pieces_from false rest
