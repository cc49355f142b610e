-- Internal. What adding a batch does to a log and to its disk.
use Rattle.std.specs.Prelude.{◌≡◌, ℕ, ◌+◌, List, ◌∷◌, ◌++◌, length}
use Rattle.std.specs.declared.option.Option.{Option}
use Rattle.disks.specs.Histories.{History}
use Rattle.disks.specs.Moments.{Leaves}
use Rattle.record_log.specs.Frames.{Frame, open_gate, batch_of}
use Rattle.record_log.specs.Images.{IsLog, IsBeforeOrAfter}

-- a batch was added behind a gate: the log has its frames behind the others
abbrev pub HasAdded : (before after : Option History) → (gate : ℕ) → (text : List ℕ) → Type 0
HasAdded before after gate text = (fs more : List Frame) → IsLog before gate fs → open_gate ∷ text ≡ batch_of more → IsLog after (gate + length text) (fs ++ more)

-- while a batch is added behind a gate, a crash at any moment leaves the frames before, or with the batch
abbrev pub LeavesLog : (before after : Option History) → (gate : ℕ) → (text : List ℕ) → Type 0
LeavesLog before after gate text = (fs more : List Frame) → IsLog before gate fs → open_gate ∷ text ≡ batch_of more → Leaves before after (IsBeforeOrAfter fs more)
