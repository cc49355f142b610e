-- Internal. What the bytes of a disk stand for as a store, and which are sound.
use Rattle.std.specs.Prelude.{◌≡◌, ◌≢◌, ◌⊎◌, ℕ, ◌≤◌, List, [], ◌∷◌, ◌++◌}
use Rattle.commit_book.specs.declared.change.Change.{Change}
use Rattle.record_log.specs.declared.log_record.LogRecord.{LogRecord}
use Rattle.record_log.specs.declared.log_record.LogRecord.TheVariants.{Commit, Moment}
use Rattle.record_log.specs.Frames.{Frame, open_gate}
use Rattle.record_log.specs.Images.{IsImage}
use Rattle.record_log.specs.Opened.{Say, HaveFrames}
use Rattle.durable_book.specs.Journals.{journal_of, last_kept, costs_of}

-- An image stands for the journal of its records up to the first gate that is not open, among which this is the last kept moment; these records wait behind that gate. At most 5 bytes are a store without a record.
pub record IsImageOf (image : List ℕ) (journal : List Change) (kept : ℕ) (waiting : List LogRecord) : Type 0 where
  pub frames : List Frame
  pub behind : List Frame
  pub records : List LogRecord
  pub image_is : IsImage image frames behind
  pub says : Say frames records
  pub waits : Say behind waiting
  pub journal_is : journal_of records ≡ journal
  pub kept_is : last_kept records ≡ kept

-- the image has these records up to the first gate that is not open
abbrev pub HasRecords : List ℕ → List LogRecord → Type 0
HasRecords image records =
    (frames : List Frame) × (gate : ℕ) × (behind : List ℕ) × Say frames records × HaveFrames image frames (gate ∷ behind) × (gate ≢ open_gate)

-- what may wait: nothing, a commit, or a moment that is not below the last kept one
abbrev pub MayWait : ℕ → List LogRecord → Type 0
MayWait kept [] = Unit {0}
MayWait kept (Commit clock change ∷ []) = Unit {0}
MayWait kept (Moment clock ∷ []) = kept ≤ clock
MayWait kept (r ∷ s ∷ records) = ⊥

-- An image is sound: it stands for a journal, and one record waits at most.
pub record IsSoundImage (image : List ℕ) : Type 0 where
  pub journal : List Change
  pub kept : ℕ
  pub waiting : List LogRecord
  pub stands : IsImageOf image journal kept waiting
  pub may_wait : MayWait kept waiting

-- The same of a journal within a capacity.
pub record IsSoundWithin (capacity : ℕ) (image : List ℕ) : Type 0 where
  pub journal : List Change
  pub kept : ℕ
  pub waiting : List LogRecord
  pub stands : IsImageOf image journal kept waiting
  pub may_wait : MayWait kept waiting
  pub fits : costs_of journal ≤ capacity

-- the image stands for the journal, and nothing waits
abbrev pub IsBefore : List Change → ℕ → List ℕ → Type 0
IsBefore journal kept image = IsImageOf image journal kept []

-- While a change is written that is within the capacity, an image stands for the journal, with the change waiting or not; or for the journal and the change.
abbrev pub IsInWrite : (capacity : ℕ) (journal : List Change) (kept : ℕ) (change : Change) → List ℕ → Type 0
IsInWrite capacity journal kept change image =
    IsBefore journal kept image
    ⊎ (((clock : ℕ) × IsImageOf image journal kept (Commit clock change ∷ []) × (costs_of (journal ++ change ∷ []) ≤ capacity))
    ⊎ IsBefore (journal ++ change ∷ []) kept image)

-- While a moment is kept that is not below the last one, an image stands for the journal, with the old moment, behind which the new one waits or not; or with the new one.
abbrev pub IsInRead : (journal : List Change) (kept : ℕ) → List ℕ → Type 0
IsInRead journal kept image =
    IsBefore journal kept image
    ⊎ (((later : ℕ) × (kept ≤ later) × IsImageOf image journal kept (Moment later ∷ []))
    ⊎ ((later : ℕ) × (kept ≤ later) × IsBefore journal later image))
