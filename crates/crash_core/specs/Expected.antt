-- Internal. What a store must have, as a machine counts it.
use Rattle.std.specs.Prelude.{ℕ, ◌+◌, nat_le, if◌then◌else◌, List}
use Rattle.std.specs.declared.option.Option.TheVariants.{None}
use Rattle.durable_book.specs.Moments.{guard_of}
use Rattle.hub_model.specs.Setting.{default_setting}
use Rattle.crash_core.specs.declared.expected.Expected.{Expected}
use Rattle.crash_core.specs.declared.lines.OpenLine.{OpenLine}
use Rattle.crash_core.specs.Steps.{kept_by}
use Rattle.crash_core.specs.Stops.{is_stored, open_after}

-- what a new store has
abbrev pub nothing : Expected
nothing = record { commits = 0; bytes = 0; kept = None }

-- behind a put that takes so much of the capacity
abbrev pub with_put : Expected → ℕ → Expected
with_put e cost = if nat_le (e.bytes + cost) default_setting.capacity then record { commits = e.commits + 1; bytes = e.bytes + cost; kept = e.kept } else e

-- behind a read at a moment
abbrev pub with_read : Expected → ℕ → Expected
with_read e moment = record { commits = e.commits; bytes = e.bytes; kept = kept_by moment e.kept }

-- how many bytes may be any once a put stops behind so many calls
abbrev pub open_for : Expected → (cost size calls : ℕ) → ℕ
open_for e cost size calls = if nat_le (e.bytes + cost) default_setting.capacity then open_after size calls else 0

-- behind a put that stopped, and a crash that drew these bytes
abbrev pub with_stop : Expected → (cost calls : ℕ) → List ℕ → Expected
with_stop e cost calls drawn = if is_stored calls drawn then with_put e cost else e

-- the line of an opening
abbrev pub line_for : ℕ → Expected → OpenLine
line_for number e = record { step = number; commits = e.commits; guard = guard_of default_setting e.kept }
