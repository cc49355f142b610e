-- Internal. A write and the sync that stores it.
use Rattle.std.specs.Prelude.{◌≡◌, ◌≢◌, ℕ, ◌⊎◌, List, [], ◌∷◌, Result, Ok, Err}
use Rattle.std.specs.declared.option.Option.{Option}
use Rattle.disks.specs.Devices.{Wrote, Synced}
use Rattle.disks.specs.Histories.{History, Goes, Tears}
use Rattle.record_log.specs.Frames.{closed_gate}

-- the bytes are written and synced; or they are written and the sync failed, or the write failed
abbrev pub HasStored : {E : Type 0} → (before after : Option History) → ℕ → List ℕ → Result (Unit {0}) E → Type 0
HasStored before after place bytes (Ok done) = Goes before after (Synced ∷ Wrote place bytes ∷ [])
HasStored before after place bytes (Err failed) = Goes before after (Wrote place bytes ∷ []) ⊎ Tears before after place bytes

-- a gate of this byte was closed before; or a closed one was written and synced over it, as far as the result says
abbrev pub HasClosed : {E : Type 0} → (before after : Option History) → ℕ → ℕ → Result (Unit {0}) E → Type 0
HasClosed before after place gate result = ((gate ≡ closed_gate) × Goes before after []) ⊎ ((gate ≢ closed_gate) × HasStored before after place (closed_gate ∷ []) result)
