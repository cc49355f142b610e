-- Internal. The history of a log that many share: what was queued, and what was said to be stored.
use Rattle.std.specs.Prelude.{◌≡◌, ℕ, ◌+◌, ◌≤◌, ◌<◌, max, List, [], ◌∷◌, ◌++◌, length, take, nat_eq, if◌then◌else◌}
use Rattle.std.specs.declared.option.Option.{Option}
use Rattle.disks.specs.Histories.{History}
use Rattle.disks.specs.Moments.{Leaves}
use Rattle.record_log.specs.Frames.{Frame}
use Rattle.record_log.specs.Images.{IsLog, StandsFor}
use Rattle.record_log.specs.Logs.{LogView}

-- An entry of that history.
pub data LogNote : Type 0 where
  -- this frame was queued, to be stored behind those that were queued before
  Queued : (frame : Frame) → LogNote
  -- the first so many frames that were queued are stored, in a log that shows this
  Stored : (count : ℕ) (log : LogView) → LogNote

-- the frames that were queued, in order
abbrev pub queued : List LogNote → List Frame
queued [] = []
queued (Queued frame ∷ notes) = frame ∷ queued notes
queued (Stored count log ∷ notes) = queued notes

-- how many of them were said to be stored
abbrev pub stored : List LogNote → ℕ
stored [] = 0
stored (Queued frame ∷ notes) = stored notes
stored (Stored count log ∷ notes) = max count (stored notes)

-- what is said to be stored grows with each entry that says so
abbrev pub Rises : ℕ → List LogNote → Type 0
Rises least [] = Unit {0}
Rises least (Queued frame ∷ notes) = Rises least notes
Rises least (Stored count log ∷ notes) = (least < count) × Rises count notes

-- how many frames are commits
abbrev pub commits_in : List Frame → ℕ
commits_in [] = 0
commits_in (f ∷ fs) = (if nat_eq f.kind 1 then 1 else 0) + commits_in fs

-- the latest moment that some frames keep, beside one that was kept before
abbrev pub moment_in : ℕ → List Frame → ℕ
moment_in kept [] = kept
moment_in kept (f ∷ fs) = moment_in (if nat_eq f.kind 2 then max kept f.clock else kept) fs

-- What a log had when it was opened: how many commits, and the moment that was kept. `log` is what it showed.
pub record Opened : Type 0 where
  pub log : LogView
  pub commits : ℕ
  pub moment : ℕ

-- how many commits are stored for certain, by what was said
abbrev pub commits_stored : Opened → List LogNote → ℕ
commits_stored o notes = o.commits + commits_in (take (stored notes) (queued notes))

-- the moment that is kept for certain, by what was said
abbrev pub moment_stored : Opened → List LogNote → ℕ
moment_stored o notes = moment_in o.moment (take (stored notes) (queued notes))

-- A frame is the commit of a number among some frames: with those that the log had when it was opened, so many commits less one are before it.
pub record IsCommitIn (o : Opened) (fs : List Frame) (commit : ℕ) (f : Frame) : Type 0 where
  pub before : List Frame
  pub behind : List Frame
  pub is : fs ≡ before ++ f ∷ behind
  pub kind : f.kind ≡ 1
  pub number : commit ≡ o.commits + commits_in before + 1

-- It was queued as that commit.
pub record IsQueuedAs (o : Opened) (notes : List LogNote) (commit : ℕ) (f : Frame) : Type 0 where
  pub among : IsCommitIn o (queued notes) commit f

-- an image stands for the frames of the opening and at least so many of those that were queued
abbrev pub HasFirst : (fs queued : List Frame) → ℕ → List ℕ → Type 0
HasFirst fs queued count image = (n : ℕ) × (waiting : List Frame) × (count ≤ n) × (n ≤ length queued) × StandsFor image (fs ++ take n queued) waiting

-- An image stands for the frames of the opening and the first of those that were queued. Each commit that is stored is among these under its number, and a moment that is no earlier than the one that is kept.
pub record KeepsStored (o : Opened) (notes : List LogNote) (fs : List Frame) (image : List ℕ) : Type 0 where
  pub left : List Frame
  pub behind : List Frame
  pub waiting : List Frame
  pub is : StandsFor image (fs ++ left) waiting
  pub first : queued notes ≡ left ++ behind
  pub commits : commits_stored o notes ≤ o.commits + commits_in left
  pub each : (commit : ℕ) (f : Frame) → commit ≤ commits_stored o notes → IsQueuedAs o notes commit f → IsCommitIn o left commit f
  pub moment : moment_stored o notes ≤ moment_in o.moment left

-- from the moment at which a log showed this on, a crash at any moment leaves the frames of the opening and at least so many of those that were queued
abbrev pub StaysFrom : Opened → List LogNote → ℕ → LogView → Option History → Type 0
StaysFrom o notes count log now = (fs : List Frame) → IsLog o.log.history o.log.gate fs → Leaves log.history now (HasFirst fs (queued notes) count)

-- from the opening on a crash at any moment leaves the frames of the opening; and from each entry on that says how many are stored, at least those too
abbrev pub StayStored : Opened → (notes before : List LogNote) → Option History → Type 0
StayStored o notes [] now = StaysFrom o notes 0 o.log now
StayStored o notes (Queued frame ∷ before) now = StayStored o notes before now
StayStored o notes (Stored count log ∷ before) now = StaysFrom o notes count log now × StayStored o notes before now
