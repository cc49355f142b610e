-- Internal. What a log keeps of a store: its commits, and the moment up to which reads were answered.
use Rattle.std.specs.Prelude.{◌≡◌, ℕ, max, min, List, [], ◌∷◌, length, flat_map}
use Rattle.std.specs.declared.option.Option.{Option}
use Rattle.commit_book.specs.declared.change.Change.{Change}
use Rattle.disks.specs.Histories.{History}
use Rattle.hub_model.specs.declared.entry.Entry.{Entry}
use Rattle.kept_desk.specs.Filling.{Writes}
use Rattle.q_base.specs.Moment.{greatest_moment}
use Rattle.record_log.specs.Images.{IsReady}
use Rattle.record_log.specs.Logs.{LogView}
use Rattle.record_log.specs.Opened.{HasOpened}
use Rattle.record_log.specs.Openings.{HasBegun}
use Rattle.record_log.specs.declared.log_record.LogRecord.{LogRecord}
use Rattle.record_log.specs.declared.log_record.LogRecord.TheVariants.{Commit, Moment}
use Rattle.shared_log.specs.LogValues.{LogValueView, opened_of}
use Rattle.shared_log.specs.Notes.{LogNote, Opened}
use Rattle.turnstile.specs.Seats.{setting_of}
use Rattle.turnstile.specs.declared.gate.Turnstile.{Turnstile}

-- the commit of a record, as it is written again: its clock, and its change
abbrev pub kept_by : LogRecord → List (ℕ × Change)
kept_by (Commit clock change) = (min clock greatest_moment, change) ∷ []
kept_by (Moment clock) = []

-- the commits of records, in order
abbrev pub kept_in : List LogRecord → List (ℕ × Change)
kept_in records = flat_map kept_by records

-- the moment that is kept behind a record
abbrev pub moment_behind : ℕ → LogRecord → ℕ
moment_behind moment (Commit clock change) = moment
moment_behind moment (Moment clock) = max moment clock

-- the latest moment that records keep, beside one that was kept before
abbrev pub last_moment : ℕ → List LogRecord → ℕ
last_moment moment [] = moment
last_moment moment (r ∷ rs) = last_moment (moment_behind moment r) rs

-- a disk has a log of these commits; of a disk that shows no history nothing is claimed
abbrev pub HasCommits : Option History → List (ℕ × Change) → Type 0
HasCommits found changes = (log : LogView) × (records : List LogRecord) × HasOpened found log records × (changes ≡ kept_in records)

-- and this is the latest moment that it keeps
abbrev pub HasMoment : Option History → ℕ → Type 0
HasMoment found moment = (log : LogView) × (records : List LogRecord) × HasOpened found log records × (moment ≡ last_moment 0 records)

-- a shared log was opened on a disk, with the commits of its log and the latest moment that it keeps
abbrev pub IsOpenedOn : Option History → Turnstile LogValueView LogNote Opened → Type 0
IsOpenedOn found place = let o = setting_of opened_of place in
    (records : List LogRecord) × HasOpened found o.log records × (o.commits ≡ length (kept_in records)) × (o.moment ≡ last_moment 0 records)

-- A log was read to its end, and a desk has written its commits, so many, and this is the latest moment that it keeps.
pub record ReadsAll (old new : LogView) (mine_old mine_new : List (ℕ × Entry)) (commits moment : ℕ) : Type 0 where
  pub records : List LogRecord
  pub opened : (found : Option History) → HasBegun found old.history old.gate → HasOpened found new records × IsReady new.history new.gate
  pub written : Writes mine_old mine_new (kept_in records)
  pub commits_is : commits ≡ length (kept_in records)
  pub moment_is : moment ≡ last_moment 0 records
