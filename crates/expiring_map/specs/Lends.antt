-- Internal. The final map, where a `&mut` to one of its values is returned.
use Rattle.std.specs.Prelude.{ℕ}
use Rattle.std.specs.Borrow.{Lends, Fml, RattleType, MutBor}
use Rattle.expiring_map.specs.Map.{Expiring}
use Rattle.expiring_map.specs.Entries.{with_value_at}
use Rattle.expiring_map.specs.contracts.map.ExpiringMap.{the_row}

-- once the borrow r ends, the index has the last value written through r
abbrev pub lends_value : (V : RattleType) → MutBor (Expiring V.Denot) → ℕ → MutBor V.Denot → Fml
lends_value V s index r = Lends (the_row V) V s r (λ w. record { entries = with_value_at s.now.entries index w; reserved = s.now.reserved })
