-- Internal. Lists of issues, advances and returned idle keys, the newest first, and their effect.
use Rattle.std.specs.Prelude.{◌≡◌, ℕ, Bool, false, not, ◌&&◌, ◌||◌, IsTrue, max, nat_lt, List, [], ◌∷◌}
use Rattle.query_normal.specs.declared.key.KeyShape.{KeyShape}
use Rattle.query_normal.specs.Keys.{same_key}
use Rattle.issued_expiries.specs.Copies.{Copy, SameCopies, is_active, unexpired, with_copy}
use Rattle.issued_expiries.specs.Expiries.{Issued, none_issued, is_idle}

-- a copy of a key at a commit until a second was issued, the clock advanced to a moment, an idle key was returned, or all idle keys were dropped
pub data Event : Type 0 where
  issue : KeyShape → ℕ → ℕ → Event
  advance : ℕ → Event
  give : KeyShape → Event
  forget : Event

-- the greatest moment
abbrev pub clock_after : List Event → ℕ
clock_after [] = 0
clock_after (issue key commit until ∷ events) = clock_after events
clock_after (advance moment ∷ events) = max (clock_after events) moment
clock_after (give key ∷ events) = clock_after events
clock_after (forget ∷ events) = clock_after events

-- all copies, merged or not, expired or not
abbrev pub copies_of : List Event → List Copy
copies_of [] = []
copies_of (issue key commit until ∷ events) = (key, commit, until) ∷ copies_of events
copies_of (advance moment ∷ events) = copies_of events
copies_of (give key ∷ events) = copies_of events
copies_of (forget ∷ events) = copies_of events

-- whether a copy of a key is later than the greatest moment
abbrev pub was_active : List Event → KeyShape → Bool
was_active events key = is_active (unexpired (clock_after events) (copies_of events)) key

-- whether an advance made a key inactive, and since then no unexpired copy of it was issued and it was not returned or dropped
abbrev pub went_idle : List Event → KeyShape → Bool
went_idle [] key = false
went_idle (issue other commit until ∷ events) key = not (same_key other key && nat_lt (clock_after events) until) && went_idle events key
went_idle (advance moment ∷ events) key = went_idle events key || was_active events key && not (was_active (advance moment ∷ events) key)
went_idle (give other ∷ events) key = not (same_key other key) && went_idle events key
went_idle (forget ∷ events) key = false

-- the call of an event, by its clauses, took the state from before to after
abbrev pub Follows : Issued → Event → Issued → Type 0
Follows before (issue key commit until) after =
    (after.clock ≡ before.clock)
    × SameCopies after.held (with_copy before.clock (key, commit, until) before.held)
    × ((other : KeyShape) → is_idle after other ≡ (not (same_key key other && nat_lt before.clock until) && is_idle before other))
Follows before (advance moment) after =
    (after.clock ≡ max before.clock moment)
    × SameCopies after.held (unexpired after.clock before.held)
    × ((key : KeyShape) → is_idle after key ≡ (is_idle before key || is_active before.held key && not (is_active after.held key)))
Follows before (give key) after =
    (after ≡ record before { idle = after.idle })
    × IsTrue (is_idle before key)
    × ((other : KeyShape) → is_idle after other ≡ (not (same_key key other) && is_idle before other))
Follows before forget after = after ≡ record before { idle = [] }

-- the calls of these events, from no copy on, may end in this state
abbrev pub EndsAs : List Event → Issued → Type 0
EndsAs [] after = after ≡ none_issued
EndsAs (event ∷ events) after = (before : Issued) × EndsAs events before × Follows before event after
