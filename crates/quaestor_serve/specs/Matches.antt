-- Believed. What those do to the history who match all commits, and drop old changes, in turn.
use Rattle.std.specs.Prelude.{◌≡◌, ◌⊎◌, ℕ, List, ◌∷◌, ◌++◌, length}
use Rattle.hub_desk.specs.Desk.{matching, dropping}
use Rattle.hub_desk.specs.declared.trim.Trim.{Trim}
use Rattle.hub_model.specs.declared.entry.Entry.{Entry}
use Rattle.hub_model.specs.Desk.{IsPrefix}
use Rattle.hub_model.specs.Setting.{Setting}
use Rattle.hub_model.specs.Step.{state_of}
use Rattle.q_outside.specs.Ends.{Ticks}
use Rattle.turnstile.specs.Places.{AllOf}

-- The history has the entry at its position, and it is the one that matches all commits before it, or the one that drops old changes as far as the trim says, or the tick that is made instead where there is nothing to match or to drop, at one of these moments.
pub record IsMatchingAt (g : Setting) (trim : Trim) (history : List Entry) (moments : List ℕ) (own : ℕ × Entry) : Type 0 where
  -- the history before the entry, and behind it
  pub ahead : List Entry
  pub behind : List Entry
  pub history_is : history ≡ ahead ++ own.1 ∷ behind
  pub position_is : length ahead ≡ own.0
  -- its moment, and the moments before and behind that one
  pub moment : ℕ
  pub earlier : List ℕ
  pub later : List ℕ
  pub moments_are : moments ≡ earlier ++ moment ∷ later
  pub entry_is : (own.1 ≡ matching (state_of g ahead) moment) ⊎ (own.1 ≡ dropping g (state_of g ahead) trim moment)

-- The desk has made such entries and no others, at moments that the clock gave, and may know more of the history.
pub record Matches {C : Type 0} (tick : C → ℕ → C → Type 0) (g : Setting) (trim : Trim) (old new : List Entry) (mine_old mine_new : List (ℕ × Entry)) (clock late : C) : Type 0 where
  pub own : List (ℕ × Entry)
  pub moments : List ℕ
  pub ticks : Ticks tick clock moments late
  pub grew : IsPrefix old new
  pub mine : mine_new ≡ mine_old ++ own
  pub matching : AllOf (IsMatchingAt g trim new moments) own

-- The history has the entry of one who matches, at a moment of a clock that it may have had.
pub record IsMatched {C : Type 0} (tick : C → ℕ → C → Type 0) (may : C → Type 0) (g : Setting) (trim : Trim) (history : List Entry) (own : ℕ × Entry) : Type 0 where
  pub clock : C
  pub allowed : may clock
  pub moments : List ℕ
  pub late : C
  pub ticks : Ticks tick clock moments late
  pub at : IsMatchingAt g trim history moments own
