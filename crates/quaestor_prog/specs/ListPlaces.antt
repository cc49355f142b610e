-- Internal. Which doors places in memory may give, and what they keep of who watches.
use Rattle.std.specs.Prelude.{◌≡◌, length, Option, Some, option_map, string_bytes}
use Rattle.q_outside.specs.declared.list_doors.ListDoors.{ListDoors}
use Rattle.command_line.specs.Watching.{WatchAsk}
use Rattle.quaestor_prog.specs.declared.list_places.Watched.{Watched}

-- what they were asked, of what they keep
abbrev pub watched_of : Watched → WatchAsk
watched_of w = record { metrics = option_map string_bytes w.metrics; log = option_map string_bytes w.log; json = w.json }

module _ {S K L : Type 0} where
  -- no connection came through the doors, they were not closed, and they have not failed
  abbrev pub AreUnused : ListDoors S K L → Type 0
  AreUnused doors = (length doors.handed.items ≡ 0) × (doors.away ≡ 0) × (doors.closings ≡ 0) × (doors.faults ≡ 0)

  -- the doors are so, where there are any
  abbrev pub AreUnusedIn : Option (ListDoors S K L) → Type 0
  AreUnusedIn doors = (d : ListDoors S K L) → doors ≡ Some d → AreUnused d
