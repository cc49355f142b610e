-- Internal. What contracts see of the expiries of issued copies.
use Rattle.std.specs.Prelude.{ℕ, Bool, List, []}
use Rattle.std.specs.List.{list_any}
use Rattle.query_normal.specs.declared.key.KeyShape.{KeyShape}
use Rattle.query_normal.specs.Keys.{same_key}
use Rattle.issued_expiries.specs.Copies.{Copy}

-- the greatest moment so far, the unexpired copies, the reserved keys, and the keys that became inactive, are still inactive, and were not returned since
pub record Issued : Type 0 where
  pub clock : ℕ
  pub held : List Copy
  pub reserved : List KeyShape
  pub idle : List KeyShape

-- no copy was issued
abbrev pub none_issued : Issued
none_issued = record { clock = 0; held = []; reserved = []; idle = [] }

-- whether a key is reserved
abbrev pub is_reserved : Issued → KeyShape → Bool
is_reserved issued key = list_any (same_key key) issued.reserved

-- whether a key is idle
abbrev pub is_idle : Issued → KeyShape → Bool
is_idle issued key = list_any (same_key key) issued.idle
