-- Internal. The history with which an opened store begins: its commits as writes, a match of all, and a tick.
use Rattle.std.specs.Prelude.{ℕ, min, List, [], ◌∷◌, ◌++◌, fold, length}
use Rattle.commit_book.specs.declared.change.Change.{Change}
use Rattle.hub_model.specs.declared.entry.Condition.TheVariants.{Always}
use Rattle.hub_model.specs.declared.entry.Entry.{Entry}
use Rattle.hub_model.specs.declared.entry.Entry.TheVariants.{Write, Tick}
use Rattle.hub_model.specs.Helps.{helps_of, match_between}
use Rattle.hub_model.specs.Setting.{Setting}
use Rattle.hub_model.specs.State.{State, start}
use Rattle.hub_model.specs.Step.{after_all}
use Rattle.q_base.specs.Moment.{greatest_moment}
use Rattle.record_log.specs.declared.log_record.LogRecord.{LogRecord}
use Rattle.record_log.specs.declared.log_record.LogRecord.TheVariants.{Commit, Moment}

-- the write that a commit is made as: at its clock, or at the greatest moment where its clock is above it
abbrev pub write_at : ℕ → Change → Entry
write_at clock change = Write (min clock greatest_moment) change Always

-- the entries that a record is made as, after a state: of a commit a write, behind what helps it, and of a moment none
abbrev pub entries_of : Setting → State → LogRecord → List Entry
entries_of g s (Commit clock change) = helps_of g s (write_at clock change) ++ write_at clock change ∷ []
entries_of g s (Moment clock) = []

-- the state after a record
abbrev pub replayed : Setting → State → LogRecord → State
replayed g s r = after_all g s (entries_of g s r)

-- the state after records, one after another
abbrev pub all_replayed : Setting → State → List LogRecord → State
all_replayed g s records = fold (replayed g) s records

-- the entries of records, one after another
abbrev pub replay_of : Setting → State → List LogRecord → List Entry
replay_of g s [] = []
replay_of g s (r ∷ records) = entries_of g s r ++ replay_of g (replayed g s r) records

-- the entries that end an opening at a moment: a match of all commits, where they are not matched, and a tick
abbrev pub end_of : State → ℕ → List Entry
end_of s moment = match_between moment s.front (length s.journal) ++ Tick moment ∷ []

-- the history of an opening at a moment, by the records that were found
abbrev pub opening_of : Setting → List LogRecord → ℕ → List Entry
opening_of g records moment = replay_of g start records ++ end_of (all_replayed g start records) moment

-- what it comes to
abbrev pub opened_state : Setting → List LogRecord → ℕ → State
opened_state g records moment = after_all g (all_replayed g start records) (end_of (all_replayed g start records) moment)
