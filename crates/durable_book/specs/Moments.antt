-- Believed. The kept moment and the guard of a store.
use Rattle.std.specs.Prelude.{ℕ, ◌+◌, ◌-◌, ◌^◌, min, nat_lt, if◌then◌else◌, unwrap_or}
use Rattle.std.specs.declared.option.Option.{Option}
use Rattle.std.specs.declared.option.Option.TheVariants.{None, Some}
use Rattle.hub_model.specs.Lifetime.{kept_for}
use Rattle.hub_model.specs.Setting.{Setting}
use Rattle.query_normal.specs.Pages.{Page}
use Rattle.hub_core.specs.PageRoom.{all_set}

-- for how many seconds a moment is kept ahead
abbrev pub kept_ahead : ℕ
kept_ahead = 60

-- the moment that is stored before a read at a clock is answered, where the clock is not below the kept one
abbrev pub moment_to_keep : (clock kept : ℕ) → Option ℕ
moment_to_keep clock kept = if nat_lt clock kept then None else Some (clock + kept_ahead)

-- the kept moment behind a read at a clock
abbrev pub kept_behind : (clock kept : ℕ) → ℕ
kept_behind clock kept = unwrap_or (moment_to_keep clock kept) kept

-- the longest time for which a copy is issued
abbrev pub longest_of : Setting → ℕ
longest_of g = kept_for g g.ttl_high

-- the kept moment and the longest lifetime, as far as 64 bits go; the latest clock of a record is far below
abbrev pub guard_at : Setting → ℕ → ℕ
guard_at g moment = min (moment + longest_of g) (2 ^ 64 - 1)

-- the guard of a store by the last kept moment that was found, and 0 without one
abbrev pub guard_of : Setting → Option ℕ → ℕ
guard_of g None = 0
guard_of g (Some moment) = guard_at g moment

-- a page as a store with a guard tells it: below the guard every bit is set
abbrev pub guarded : ℕ → Page → Page
guarded guard page = if nat_lt page.moment guard then all_set page else page
