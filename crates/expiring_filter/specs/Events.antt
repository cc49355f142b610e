-- Internal. Lists of adds, removes and advances, the newest first, and which keys they leave.
use Rattle.std.specs.Prelude.{◌≡◌, ℕ, ◌<◌, max, nat_lt, if◌then◌else◌, List, [], ◌∷◌}
use Rattle.query_normal.specs.declared.key.KeyShape.{KeyShape}
use Rattle.query_normal.specs.Keys.{same_key}
use Rattle.expiring_filter.specs.Filter.{Filter, empty_filter, Removes}
use Rattle.expiring_filter.specs.Held.{Expires, put_until}

-- a key was added until a second, a key was removed, or the clock advanced to a moment
pub data Event : Type 0 where
  add : KeyShape → ℕ → Event
  remove : KeyShape → Event
  advance : ℕ → Event

-- the greatest moment
abbrev pub clock_after : List Event → ℕ
clock_after [] = 0
clock_after (add key until ∷ events) = clock_after events
clock_after (remove key ∷ events) = clock_after events
clock_after (advance moment ∷ events) = max (clock_after events) moment

-- the greatest second until which a key was added since it was last removed; 0 where it was not
abbrev pub added_until : List Event → KeyShape → ℕ
added_until [] key = 0
added_until (add other until ∷ events) key = if same_key key other then max until (added_until events key) else added_until events key
added_until (remove other ∷ events) key = if same_key key other then 0 else added_until events key
added_until (advance moment ∷ events) key = added_until events key

-- the greatest second of the entries of a key; 0 without one
abbrev pub second_of : List (KeyShape × ℕ) → KeyShape → ℕ
second_of [] key = 0
second_of (e ∷ held) key = if same_key key e.0 then max e.1 (second_of held key) else second_of held key

-- the call of an event, by its clauses, took the filter from before to after; an add has a second above the greatest moment so far
abbrev pub Follows : ℕ → Filter → Event → Filter → Type 0
Follows clock before (add key until) after = (clock < until) × (after.held ≡ put_until before.held key until)
Follows clock before (remove key) after = Removes key before.held after.held
Follows clock before (advance moment) after = Expires moment before.held after.held

-- the calls of these events on an empty filter may end in this filter
abbrev pub EndsAs : ℕ → ℕ → List Event → Filter → Type 0
EndsAs log2_bits hashes [] after = after ≡ empty_filter log2_bits hashes
EndsAs log2_bits hashes (event ∷ events) after = (before : Filter) × EndsAs log2_bits hashes events before × Follows (clock_after events) before event after

-- the second until which a key is held after these events: that until which it was added, if that is above the clock, else 0
abbrev pub held_after : List Event → KeyShape → ℕ
held_after events key = if nat_lt (clock_after events) (added_until events key) then added_until events key else 0
