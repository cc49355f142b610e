-- Internal. What contracts see of the value of a shared log, and for which history it stands.
use Rattle.std.specs.Prelude.{◌≡◌, ◌≢◌, ℕ, ◌+◌, ◌≤◌, ◌^◌, ◌<◌, Bool, true, false, List, [], ◌∷◌, ◌++◌, length, take, drop}
use Rattle.std.specs.declared.option.Option.{Option}
use Rattle.std.specs.declared.option.Option.TheVariants.{None, Some}
use Rattle.record_log.specs.Frames.{Frame, batch_of}
use Rattle.record_log.specs.Images.{IsLog, IsReady}
use Rattle.record_log.specs.Logs.{LogView}
use Rattle.shared_log.specs.declared.mark.Mark.{Mark as AMark}
use Rattle.shared_log.specs.declared.log_value.Unqueued.{Unqueued}
use Rattle.shared_log.specs.declared.log_value.Unqueued.TheVariants.{Early, Memory, Broken}
use Rattle.shared_log.specs.Notes.{Queued, Stored}
use mathlib.Core.List.{IsPrefix}
use Rattle.shared_log.specs.Notes.{LogNote, Opened, StayStored, Rises, queued, stored, commits_in, moment_in}

-- How far something has come: how many frames of those that were queued, how many commits with those of the opening, and which moment is kept.
pub record Mark : Type 0 where
  pub frames : ℕ
  pub commits : ℕ
  pub moment : ℕ

-- the same, of what the code has
abbrev pub mark_of : AMark → Mark
mark_of m = record { frames = m.frames; commits = m.commits; moment = m.moment }

-- What contracts see of the value of a shared log.
pub record LogValueView : Type 0 where
  pub opened : Opened
  -- the log, unless one who stores has it
  pub log : Option LogView
  -- the bytes of what was queued and not taken to be stored
  pub pending : List ℕ
  -- the number of entries of the history
  pub count : ℕ
  -- what was queued, what was taken to be stored, and what is stored
  pub queued : Mark
  pub taken : Mark
  pub stored : Mark
  -- the disk failed
  pub broken : Bool

-- the log as it was opened
abbrev pub opened_of : LogValueView → Opened
opened_of v = v.opened

-- a mark is where the first frames end
abbrev pub IsAt : Opened → List Frame → Mark → Type 0
IsAt o fs m = (m.frames ≤ length fs) × (m.commits ≡ o.commits + commits_in (take m.frames fs)) × (m.moment ≡ moment_in o.moment (take m.frames fs))

-- a log has the frames of the opening and the first of those that were queued
abbrev pub HasStored : Opened → LogView → List Frame → Type 0
HasStored o log fs = (first : List Frame) → IsLog o.log.history o.log.gate first → IsLog log.history log.gate (first ++ fs)

-- What is so of a log that nobody has in hand, where the disk has not failed: all that was taken is stored, and nothing is pending on the disk.
pub record IsInHand (v : LogValueView) (notes : List LogNote) (log : LogView) : Type 0 where
  pub all : v.taken ≡ v.stored
  pub ready : IsReady log.history log.gate
  pub has : HasStored v.opened log (take v.stored.frames (queued notes))

-- of a log that is there, what was said to be stored stays so, where the disk failed too
abbrev pub IsThere : LogValueView → List LogNote → Option LogView → Type 0
IsThere v notes None = Unit {0}
IsThere v notes (Some log) = StayStored v.opened notes notes log.history × (v.broken ≡ false → IsInHand v notes log)

-- What one who stores has in hand: a log with the first frames of the queue, and a batch of those behind them, up to a mark.
pub record HoldsWork (o : Opened) (notes : List LogNote) (log : LogView) (batch : List ℕ) (from to : Mark) : Type 0 where
  pub ready : IsReady log.history log.gate
  pub has : HasStored o log (take from.frames (queued notes))
  pub stay : StayStored o notes notes log.history
  pub from_is : from.frames ≡ stored notes
  pub some : from.frames < to.frames
  pub to_is : IsAt o (queued notes) to
  pub batch_is : batch ≡ batch_of (drop from.frames (take to.frames (queued notes)))

-- The same once the batch is stored.
pub record HoldsStored (o : Opened) (notes : List LogNote) (log : LogView) (from to : Mark) : Type 0 where
  pub ready : IsReady log.history log.gate
  pub has : HasStored o log (take to.frames (queued notes))
  pub stay : StayStored o notes notes log.history
  pub from_is : from.frames ≡ stored notes
  pub some : from.frames < to.frames
  pub to_is : IsAt o (queued notes) to

-- What is so of the log once storing the batch failed: what was said to be stored stays so.
pub record HoldsLost (o : Opened) (notes : List LogNote) (log : LogView) (from : Mark) : Type 0 where
  pub stay : StayStored o notes notes log.history
  pub from_is : from.frames ≡ stored notes

-- The value stands for the history.
pub record StandsFor (v : LogValueView) (notes : List LogNote) : Type 0 where
  pub counted : v.count ≡ length notes
  pub small : v.count < 2 ^ 64
  pub ready : IsReady v.opened.log.history v.opened.log.gate
  pub rises : Rises 0 notes
  pub queued_is : (v.queued.frames ≡ length (queued notes)) × IsAt v.opened (queued notes) v.queued
  pub taken_is : IsAt v.opened (queued notes) v.taken
  pub stored_is : (v.stored.frames ≡ stored notes) × IsAt v.opened (queued notes) v.stored
  pub pending : v.pending ≡ batch_of (drop v.taken.frames (queued notes))
  pub there : IsThere v notes v.log

-- each number of entries may be
abbrev pub AreFew : Opened → List LogNote → Type 0
AreFew o notes = length notes < 2 ^ 64

-- a frame was queued, and one entry says so: whatever history the value stood for, it stands for that with the frame
abbrev pub HasQueued : (old new : LogValueView) → Frame → Type 0
HasQueued old new f = (opened_of new ≡ opened_of old) × ((notes : List LogNote) → StandsFor old notes → StandsFor new (notes ++ Queued f ∷ []))

-- why a commit is not queued
abbrev pub RefusesToQueue : LogValueView → ℕ → Unqueued → Type 0
RefusesToQueue v commit Early = commit ≢ v.queued.commits + 1
RefusesToQueue v commit Memory = Unit {0}
RefusesToQueue v commit Broken = v.broken ≡ true

-- it stands for the same history still
abbrev pub StandsStill : (old new : LogValueView) → Type 0
StandsStill old new = (opened_of new ≡ opened_of old) × ((notes : List LogNote) → StandsFor old notes → StandsFor new notes)

-- The log and what was queued were taken out of a value, which has neither any more and stands for the same history still.
pub record IsTaken (old new : LogValueView) (log : LogView) (batch : List ℕ) (from to : Mark) : Type 0 where
  pub opened : opened_of new ≡ opened_of old
  pub left : new ≡ record old { log = None; pending = batch_of []; taken = old.queued }
  pub there : old.log ≡ Some log
  pub whole : old.broken ≡ false
  pub batch_is : batch ≡ old.pending
  pub from_is : from ≡ old.stored
  pub to_is : to ≡ old.queued
  pub stands : (notes : List LogNote) → StandsFor old notes → StandsFor new notes × HoldsWork old.opened notes log batch from to

-- the log was put back, stored as far as a mark, and one entry says so
abbrev pub IsPutBack : (old new : LogValueView) → LogView → (from to : Mark) → Type 0
IsPutBack old new log from to = (opened_of new ≡ opened_of old) × (new ≡ record old { log = Some log; stored = to; count = old.count + 1 })
    × ((notes before : List LogNote) → StandsFor old notes → IsPrefix before notes → HoldsStored old.opened before log from to → StandsFor new (notes ++ Stored to.frames log ∷ []))

-- the log was put back once storing failed, and is not used again
abbrev pub IsPutLost : (old new : LogValueView) → LogView → (from : Mark) → Type 0
IsPutLost old new log from = (opened_of new ≡ opened_of old) × (new.broken ≡ true)
    × ((notes before : List LogNote) → StandsFor old notes → IsPrefix before notes → HoldsLost old.opened before log from → StandsFor new notes)
