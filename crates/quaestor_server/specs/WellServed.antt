-- Believed. That a connection was well served, in a history that others may have made longer, by a desk that may be unready or not.
use Rattle.std.specs.Prelude.{◌≡◌, ℕ, ◌++◌, Bool, List, [], ◌∷◌, length, All}
use Rattle.dialogue.specs.Dialogue.{Sides, Dialogue}
use Rattle.hub_model.specs.declared.entry.Entry.{Entry}
use Rattle.hub_model.specs.Desk.{IsPrefix}
use Rattle.hub_model.specs.Setting.{Setting}
use Rattle.q_outside.specs.declared.served.Served.{Served}
use Rattle.quaestor_server.specs.Conversation.{Replies}

-- A connection whose own entries are these, each with its position, was served over a prefix of the history.
pub record WellServed (g : Setting) (unready : Bool) (history : List Entry) (moments : List ℕ) (entered : List Bool) (before after : Sides) (own : List (ℕ × Entry)) (served : Served) : Type 0 where
  -- what was known when it began, and when it ended
  pub begins : List Entry
  pub ends : List Entry
  pub beginning : IsPrefix ends history
  pub dialogue : Dialogue (Replies g unready) (record { seen = begins; mine = []; moments = []; entered = [] }) (record { seen = ends; mine = own; moments = moments; entered = entered }) before after served

-- the history has this entry at this position
abbrev pub HasEntryAt : List Entry → ℕ × Entry → Type 0
HasEntryAt history own = (ahead rest : List Entry) × (history ≡ ahead ++ own.1 ∷ rest) × (length ahead ≡ own.0)

-- a connection that was well served is so in every longer history
abbrev pub WellServedStays : Type 0
WellServedStays =
    (g : Setting) (unready : Bool) (history longer : List Entry) (moments : List ℕ) (entered : List Bool) (before after : Sides) (own : List (ℕ × Entry)) (served : Served)
    → IsPrefix history longer → WellServed g unready history moments entered before after own served → WellServed g unready longer moments entered before after own served

-- and its own entries are there, at their positions
abbrev pub OwnEntriesAreInPlace : Type 0
OwnEntriesAreInPlace =
    (g : Setting) (unready : Bool) (history : List Entry) (moments : List ℕ) (entered : List Bool) (before after : Sides) (own : List (ℕ × Entry)) (served : Served)
    → WellServed g unready history moments entered before after own served → All (HasEntryAt history) own
