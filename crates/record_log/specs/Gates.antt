-- Internal. What is read at a gate.
use Rattle.std.specs.Prelude.{◌≡◌, ◌≢◌, ℕ, ◌+◌, List, ◌∷◌, ◌++◌, length, drop, Result, Ok, Err}
use Rattle.std.specs.declared.option.Option.{Option}
use Rattle.std.specs.declared.option.Option.TheVariants.{None, Some}
use Rattle.disks.specs.Histories.{History, device_of}
use Rattle.record_log.specs.declared.gate.Gate.{Gate}
use Rattle.record_log.specs.declared.gate.Gate.TheVariants.{Open, Shut}
use Rattle.record_log.specs.declared.refusal.LogRefusal.{LogRefusal}
use Rattle.record_log.specs.declared.refusal.LogRefusal.TheVariants.{BadMark, BadRecord, DiskFault, Memory}
use Rattle.record_log.specs.Frames.{Frame, Fits, open_gate, opened}
use Rattle.record_log.specs.Openings.{IsBad}
use Rattle.record_log.specs.Records.{record_of}

-- what is found in bytes that begin with a gate at a place
abbrev pub GateIs : List ℕ → ℕ → Result Gate LogRefusal → Type 0
GateIs rest place (Ok (Open says next)) = (f : Frame) × (more : List ℕ) × Fits f × (record_of f ≡ Some says) × (rest ≡ opened f ++ more) × (next ≡ place + length (opened f))
GateIs rest place (Ok (Shut gate)) = (behind : List ℕ) × (rest ≡ gate ∷ behind) × (gate ≢ open_gate)
GateIs rest place (Err (BadRecord bad)) = (bad ≡ place) × IsBad rest
GateIs rest place (Err BadMark) = ⊥
GateIs rest place (Err DiskFault) = Unit {0}
GateIs rest place (Err Memory) = Unit {0}

-- the same of the bytes of a disk from a place on
abbrev pub HasGate : Option History → ℕ → Result Gate LogRefusal → Type 0
HasGate None place result = Unit {0}
HasGate (Some h) place result = GateIs (drop place (device_of h).seen) place result
