-- Internal. What contracts see of a map whose keys expire.
use Rattle.std.specs.Prelude.{Bool, List, []}
use Rattle.std.specs.List.{list_any}
use Rattle.query_normal.specs.declared.key.KeyShape.{KeyShape}
use Rattle.query_normal.specs.Keys.{same_key}
use Rattle.expiring_map.specs.declared.timed.Timed.{Timed}

-- the keys, each once, with second and value, and the reserved keys
pub record Expiring (V : Type 0) : Type 0 where
  pub entries : List (KeyShape × Timed V)
  pub reserved : List KeyShape

module _ {V : Type 0} where
  -- no key
  abbrev pub no_keys : Expiring V
  no_keys = record { entries = []; reserved = [] }

  -- whether a key is reserved
  abbrev pub is_reserved : Expiring V → KeyShape → Bool
  is_reserved map key = list_any (same_key key) map.reserved
