-- Internal. The bytes of a log: a mark, frames behind open gates, and a gate that is not open.
use Rattle.std.specs.Prelude.{ℕ, ◌<◌, ◌^◌, List, [], ◌∷◌, ◌++◌, length}
use Rattle.std.specs.Int.{w32, w64, to_be_bytes}
use Rattle.std.specs.List.{flat_map}

-- A record as bytes: its kind, its clock in seconds since 1970, and its body.
pub record Frame : Type 0 where
  pub kind : ℕ
  pub clock : ℕ
  pub body : List ℕ

-- what every log begins with: `QSJ1`
abbrev pub mark : List ℕ
mark = 81 ∷ 83 ∷ 74 ∷ 49 ∷ []

-- the byte of a gate that is open; any other is not
abbrev pub open_gate : ℕ
open_gate = 1

-- the byte of a gate that is closed
abbrev pub closed_gate : ℕ
closed_gate = 0

-- what stands before a body: the gate, the kind, the clock in 8 bytes and the length of the body in 4, the high byte first
abbrev pub head_text : (gate kind clock size : ℕ) → List ℕ
head_text gate kind clock size = gate ∷ kind ∷ (to_be_bytes w64 clock ++ to_be_bytes w32 size)

-- a frame behind its open gate
abbrev pub opened : Frame → List ℕ
opened f = head_text open_gate f.kind f.clock (length f.body) ++ f.body

-- frames, each behind its open gate
abbrev pub all_opened : List Frame → List ℕ
all_opened fs = flat_map opened fs

-- a log up to its gate that is not open
abbrev pub front_of : List Frame → List ℕ
front_of fs = mark ++ all_opened fs

-- a batch as it will stand from the gate of the log on: frames, each behind its open gate, and a closed gate
abbrev pub batch_of : List Frame → List ℕ
batch_of fs = all_opened fs ++ closed_gate ∷ []

-- the frame's kind, clock and length have their bytes
pub record Fits (f : Frame) : Type 0 where
  pub kind : f.kind < 2 ^ 8
  pub clock : f.clock < 2 ^ 64
  pub size : length f.body < 2 ^ 32

-- each of the frames has its bytes
abbrev pub AllFit : List Frame → Type 0
AllFit [] = Unit {0}
AllFit (f ∷ fs) = Fits f × AllFit fs
