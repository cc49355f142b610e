-- Internal. What the bytes of a disk stand for.
use Rattle.std.specs.Prelude.{◌≡◌, ◌≢◌, ◌⊎◌, ℕ, ◌≤◌, List, [], ◌∷◌, ◌++◌, length}
use Rattle.disks.specs.Histories.{History, device_of}
use Rattle.disks.specs.Devices.{at_rest}
use Rattle.std.specs.declared.option.Option.{Option}
use Rattle.std.specs.declared.option.Option.TheVariants.{None, Some}
use Rattle.record_log.specs.Frames.{Frame, mark, open_gate, closed_gate, all_opened, front_of}

-- Frames that wait behind a gate that is neither open nor closed: once the gate is open, they are in the log too.
pub record Wait (gate : ℕ) (behind : List ℕ) (waiting : List Frame) : Type 0 where
  pub torn : gate ≢ closed_gate
  pub rest : List ℕ
  pub frames : open_gate ∷ behind ≡ all_opened waiting ++ closed_gate ∷ rest
  pub some : waiting ≢ []

-- An image stands for the frames up to its first gate that is not open. That gate is closed, and then nothing waits; or it is neither, and then these frames wait behind it.
pub record StandsFor (image : List ℕ) (fs waiting : List Frame) : Type 0 where
  pub gate : ℕ
  pub behind : List ℕ
  pub is : image ≡ front_of fs ++ gate ∷ behind
  pub shut : gate ≢ open_gate
  pub waits : ((gate ≡ closed_gate) × (waiting ≡ [])) ⊎ Wait gate behind waiting

-- the bytes of a new log
abbrev pub new_log : List ℕ
new_log = mark ++ closed_gate ∷ []

-- bytes of at most this number are a new log that is not yet written
abbrev pub empty_length : ℕ
empty_length = 5

-- an image stands for frames; or it is a new log that is not yet written
abbrev pub IsImage : List ℕ → (fs waiting : List Frame) → Type 0
IsImage image fs waiting = StandsFor image fs waiting ⊎ ((length image ≤ empty_length) × (fs ≡ []) × (waiting ≡ []))

-- an image of a log to which frames are added stands for those before, with the others waiting or not; or for all
abbrev pub IsBeforeOrAfter : (fs more : List Frame) → List ℕ → Type 0
IsBeforeOrAfter fs more image = StandsFor image fs [] ⊎ (StandsFor image fs more ⊎ StandsFor image (fs ++ more) [])

-- nothing is pending on the disk, and it has these frames and behind them a closed gate, at this place; of a disk that shows no history it claims nothing
abbrev pub IsLog : Option History → ℕ → List Frame → Type 0
IsLog None gate fs = Unit {0}
IsLog (Some h) gate fs =
    (behind : List ℕ) × (device_of h ≡ at_rest (front_of fs ++ closed_gate ∷ behind)) × (gate ≡ length (front_of fs))

-- nothing is pending on the disk, and it has frames and behind them a closed gate, at this place
abbrev pub IsReady : Option History → ℕ → Type 0
IsReady history gate = (fs : List Frame) × IsLog history gate fs
