-- Internal. What contracts see of a log, and what adding a batch does to it.
use Rattle.std.specs.Prelude.{◌≡◌, ℕ, List, ◌++◌}
use Rattle.std.specs.declared.option.Option.{Option}
use Rattle.disks.specs.Histories.{History}
use Rattle.disks.specs.Moments.{Leaves}
use Rattle.record_log.specs.Frames.{Frame, batch_of}
use Rattle.record_log.specs.Images.{IsLog, IsBeforeOrAfter}

-- What contracts see of a log: the history of its disk, where this shows one, the disk's faults, and the place of the gate.
pub record LogView : Type 0 where
  pub history : Option History
  pub faults : ℕ
  pub gate : ℕ

-- a log has the frames of a batch behind the others
abbrev pub HasAppended : (old new : LogView) → List ℕ → Type 0
HasAppended old new batch = (fs more : List Frame) → IsLog old.history old.gate fs → batch ≡ batch_of more → IsLog new.history new.gate (fs ++ more)

-- at any moment a crash leaves the frames before, or with the batch
abbrev pub LeavesAppended : (old new : LogView) → List ℕ → Type 0
LeavesAppended old new batch = (fs more : List Frame) → IsLog old.history old.gate fs → batch ≡ batch_of more → Leaves old.history new.history (IsBeforeOrAfter fs more)
