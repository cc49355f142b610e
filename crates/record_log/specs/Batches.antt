-- Internal. What a batch holds.
use Rattle.std.specs.Prelude.{◌≡◌, ℕ, List, [], ◌∷◌, ◌++◌}
use Rattle.std.specs.declared.option.Option.TheVariants.{Some}
use Rattle.record_log.specs.declared.log_record.LogRecord.{LogRecord}
use Rattle.record_log.specs.Frames.{Frame, Fits, batch_of}
use Rattle.record_log.specs.Records.{record_of}

-- the bytes of a batch of some frames
abbrev pub IsBatch : List ℕ → Type 0
IsBatch bytes = (fs : List Frame) × (bytes ≡ batch_of fs)

-- a batch has one frame more
abbrev pub AddsFrame : (old new : List ℕ) → Frame → Type 0
AddsFrame old new f = (fs : List Frame) → old ≡ batch_of fs → new ≡ batch_of (fs ++ f ∷ [])

-- A frame is that of a record: it has its bytes, and says this when it is read.
pub record IsFrameOf (f : Frame) (r : LogRecord) : Type 0 where
  pub fits : Fits f
  pub says : record_of f ≡ Some r
