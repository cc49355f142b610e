-- Believed. What the calls of a desk do that match all commits, drop old changes or fetch a page; and what contracts see of a desk that owns its hub.
use Rattle.std.specs.Prelude.{◌≡◌, ℕ, ◌+◌, ◌-◌, ◌*◌, ◌++◌, ◌<◌, Bool, ◌||◌, min, nat_lt, if◌then◌else◌, List, length, Some}
use Rattle.commit_book.specs.Journal.{kept}
use Rattle.hub_core.specs.PageRoom.{PageRoomView}
use Rattle.hub_desk.specs.declared.trim.Trim.{Trim}
use Rattle.hub_desk.specs.declared.trim.Trim.TheVariants.{All, Below, Full}
use Rattle.hub_model.specs.declared.entry.Dropped.{Dropped}
use Rattle.hub_model.specs.declared.entry.Entry.{Entry}
use Rattle.hub_model.specs.declared.entry.Entry.TheVariants.{Match, Fetch, Tick, Horizon}
use Rattle.hub_model.specs.declared.entry.Matched.{Matched}
use Rattle.hub_model.specs.Desk.{Makes}
use Rattle.hub_model.specs.Reply.{Replied, matched, fetched, counted, dropped}
use Rattle.hub_model.specs.Setting.{Setting}
use Rattle.hub_model.specs.State.{State}
use Rattle.hub_model.specs.Step.{state_of}
use Rattle.query_normal.specs.Pages.{Page}

-- the entry that matches all commits of a state: a match up to the last one, or a tick where the front is there already
abbrev pub matching : State → ℕ → Entry
matching s moment = if nat_lt s.front (length s.journal) then Match moment (length s.journal) else Tick moment

-- there are commits that were not matched yet
abbrev pub IsBehind : State → Type 0
IsBehind s = s.front < length s.journal

-- the front and the clock in the reply to such an entry
abbrev pub IsFrontOf : Replied → Matched → Type 0
IsFrontOf (matched match) told = told ≡ match
IsFrontOf (counted stats) told = told ≡ record { front = stats.front; clock = stats.clock }
IsFrontOf replied told = ⊥

-- The desk has made the entry that matches all commits, and its answer is the front and the clock of the reply.
pub record MatchesAll (g : Setting) (old new : List Entry) (mine_old mine_new : List (ℕ × Entry)) (moment : ℕ) (told : Matched) : Type 0 where
  pub entry : Entry
  pub replied : Replied
  pub made : Makes g old new mine_old mine_new entry replied
  pub entry_is : entry ≡ matching (state_of g (made.before ++ made.helps)) moment
  pub told_is : IsFrontOf replied told

-- how many commits one drop moves the horizon at most, unless all is to be dropped
abbrev pub most_dropped : ℕ
most_dropped = 4096

-- what the greatest change takes: 64 bytes, those of a collection and an id of 64, and those of a document of 65,536
abbrev pub greatest_cost : ℕ
greatest_cost = 65728

-- a store that keeps so many bytes of its capacity fills: more than three quarters are kept, or the greatest change might not fit
abbrev pub is_filling : (capacity bytes : ℕ) → Bool
is_filling capacity bytes = nat_lt (3 * capacity) (4 * bytes) || nat_lt capacity (bytes + greatest_cost)

-- the commit up to which old changes are dropped in a state: the front; or a number of commits below it; or, where the store fills, the front, and else the horizon
abbrev pub target_of : Setting → State → Trim → ℕ
target_of g s All = s.front
target_of g s (Below commits) = min (s.front - commits) (s.horizon + most_dropped)
target_of g s Full = if is_filling g.capacity (kept s.journal s.horizon) then min s.front (s.horizon + most_dropped) else s.horizon

-- the entry that drops them: a drop up to there, or a tick where the horizon is there already
abbrev pub dropping : Setting → State → Trim → ℕ → Entry
dropping g s trim moment = if nat_lt s.horizon (target_of g s trim) then Horizon moment (target_of g s trim) else Tick moment

-- the same where all is dropped: a drop up to the front, or a tick where the horizon is there already
abbrev pub dropping_all : State → ℕ → Entry
dropping_all s moment = if nat_lt s.horizon s.front then Horizon moment s.front else Tick moment

-- the horizon and the clock in the reply to such an entry, made in a state: a tick leaves the horizon where it is
abbrev pub IsHorizonOf : State → Replied → Dropped → Type 0
IsHorizonOf s (dropped drop) told = told ≡ drop
IsHorizonOf s (counted stats) told = told ≡ record { horizon = s.horizon; clock = stats.clock }
IsHorizonOf s replied told = ⊥

-- the same where all is dropped: a tick is made where the horizon is the front, which its reply has
abbrev pub IsWholeDropOf : Replied → Dropped → Type 0
IsWholeDropOf (dropped drop) told = told ≡ drop
IsWholeDropOf (counted stats) told = told ≡ record { horizon = stats.front; clock = stats.clock }
IsWholeDropOf replied told = ⊥

-- The desk has made the entry that drops old changes, and its answer is the horizon and the clock behind it.
pub record DropsOld (g : Setting) (old new : List Entry) (mine_old mine_new : List (ℕ × Entry)) (moment : ℕ) (trim : Trim) (told : Dropped) : Type 0 where
  pub entry : Entry
  pub replied : Replied
  pub made : Makes g old new mine_old mine_new entry replied
  pub entry_is : entry ≡ dropping g (state_of g (made.before ++ made.helps)) trim moment
  pub told_is : IsHorizonOf (state_of g (made.before ++ made.helps)) replied told

-- The desk has made the entry that fetches a page, and the buffer has the page of the reply.
pub record Fetches (g : Setting) (old new : List Entry) (mine_old mine_new : List (ℕ × Entry)) (moment : ℕ) (room : PageRoomView) : Type 0 where
  pub page : Page
  pub held : room.page ≡ Some page
  pub made : Makes g old new mine_old mine_new (Fetch moment) (fetched page)

-- one call makes two entries at most: one ahead of its own, and its own
abbrev pub most_entries : ℕ
most_entries = 2

-- What contracts see of a desk that owns its hub.
pub record OwnedView : Type 0 where
  pub setting : Setting
  -- the history, whole
  pub entries : List Entry
  -- the number of entries that can be stored without memory
  pub capacity : ℕ
