-- Internal. What stands at a gate, as far as a record's body.
use Rattle.std.specs.Prelude.{◌≡◌, ◌≢◌, ℕ, ◌^◌, ◌<◌, Bool, true, false, List, [], ◌∷◌, ◌++◌, length, drop, Result, Ok, Err}
use Rattle.std.specs.declared.option.Option.{Option}
use Rattle.std.specs.declared.option.Option.TheVariants.{None, Some}
use Rattle.disks.specs.Histories.{History, device_of}
use Rattle.record_log.specs.declared.head.AtGate.{AtGate}
use Rattle.record_log.specs.declared.head.AtGate.TheVariants.{Missing, Shut, Short, Open}
use Rattle.record_log.specs.declared.refusal.LogRefusal.{LogRefusal}
use Rattle.record_log.specs.declared.refusal.LogRefusal.TheVariants.{BadMark, BadRecord, DiskFault, Memory}
use Rattle.record_log.specs.Frames.{open_gate, head_text}

-- bytes begin so
abbrev pub HeadIs : List ℕ → AtGate → Type 0
HeadIs rest Missing = rest ≡ []
HeadIs rest (Shut gate) = (behind : List ℕ) × (rest ≡ gate ∷ behind) × (gate ≢ open_gate)
HeadIs rest Short = (text : List ℕ) × (rest ≡ open_gate ∷ text) × (length rest < 14)
HeadIs rest (Open kind clock size) = (more : List ℕ) × (rest ≡ head_text open_gate kind clock size ++ more)

-- the bytes of a disk from a place on begin so
abbrev pub HasHead : Option History → ℕ → AtGate → Type 0
HasHead None place at = Unit {0}
HasHead (Some h) place at = HeadIs (drop place (device_of h).seen) at × (length (device_of h).seen < 2 ^ 64)

-- a body of this size was read from a place on, or there are fewer bytes
abbrev pub HasBody : Option History → ℕ → ℕ → List ℕ → Result Bool LogRefusal → Type 0
HasBody None place size body result = Unit {0}
HasBody (Some h) place size body (Ok true) = (length body ≡ size) × (drop place (device_of h).seen ≡ body ++ drop size (drop place (device_of h).seen))
HasBody (Some h) place size body (Ok false) = length (drop place (device_of h).seen) < size
HasBody (Some h) place size body (Err BadMark) = ⊥
HasBody (Some h) place size body (Err (BadRecord bad)) = ⊥
HasBody (Some h) place size body (Err DiskFault) = Unit {0}
HasBody (Some h) place size body (Err Memory) = Unit {0}
