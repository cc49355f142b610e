-- Internal. Whether a disk begins with the mark.
use Rattle.std.specs.Prelude.{◌≡◌, ◌≢◌, Bool, true, false, List, ℕ, ◌++◌}
use Rattle.std.specs.declared.option.Option.{Option}
use Rattle.std.specs.declared.option.Option.TheVariants.{None, Some}
use Rattle.disks.specs.Histories.{History, device_of}
use Rattle.record_log.specs.Frames.{mark}

-- what reads give begins with the mark, or does not
abbrev pub MarkIs : Option History → Bool → Type 0
MarkIs None found = Unit {0}
MarkIs (Some h) true = (rest : List ℕ) × ((device_of h).seen ≡ mark ++ rest)
MarkIs (Some h) false = (rest : List ℕ) → (device_of h).seen ≢ mark ++ rest
