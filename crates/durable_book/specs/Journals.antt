-- Believed. What records say of a store: its journal, and the last moment that it keeps.
use Rattle.std.specs.Prelude.{ℕ, List, [], ◌∷◌, fold, sum_by}
use Rattle.std.specs.List.{flat_map}
use Rattle.std.specs.Option.{option_map_or}
use Rattle.std.specs.declared.option.Option.{Option}
use Rattle.std.specs.declared.option.Option.TheVariants.{None, Some}
use Rattle.commit_book.specs.declared.change.Change.{Change}
use Rattle.commit_book.specs.Journal.{cost_of}
use Rattle.record_log.specs.declared.log_record.LogRecord.{LogRecord}
use Rattle.record_log.specs.declared.log_record.LogRecord.TheVariants.{Commit, Moment}

-- the change of a commit; a moment has none
abbrev pub changes_of : LogRecord → List Change
changes_of (Commit clock change) = change ∷ []
changes_of (Moment clock) = []

-- the changes of the commits, in order
abbrev pub journal_of : List LogRecord → List Change
journal_of records = flat_map changes_of records

-- the last kept moment behind a record, by the one before it
abbrev pub moment_behind : Option ℕ → LogRecord → Option ℕ
moment_behind last (Commit clock change) = last
moment_behind last (Moment clock) = Some clock

-- the clock of the last moment among records, where there is one
abbrev pub last_moment : List LogRecord → Option ℕ
last_moment records = fold moment_behind None records

-- the last kept moment, and 0 without one
abbrev pub last_kept : List LogRecord → ℕ
last_kept records = option_map_or (λ moment. moment) (last_moment records) 0

-- what changes take of a capacity
abbrev pub costs_of : List Change → ℕ
costs_of changes = sum_by cost_of changes
