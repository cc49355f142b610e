-- Internal. The last commits that changed the results of keys.
use Rattle.std.specs.Prelude.{ℕ, Bool, List, is_some, unwrap_or}
use Rattle.std.specs.Map.{lookup}
use Rattle.query_normal.specs.declared.key.KeyShape.{KeyShape}
use Rattle.query_normal.specs.Keys.{same_key}

-- keys, each with the last commit that changed its result
abbrev pub Changes : Type 0
Changes = List (KeyShape × ℕ)

-- whether a key has an entry
abbrev pub is_known : Changes → KeyShape → Bool
is_known entries key = is_some (lookup (same_key key) entries)

-- the last commit that changed the result of a key; 0 where it has no entry
abbrev pub change_of : Changes → KeyShape → ℕ
change_of entries key = unwrap_or (lookup (same_key key) entries) 0
