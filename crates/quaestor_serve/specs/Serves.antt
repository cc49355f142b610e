-- Believed. What a server has done when it ends.
use Rattle.std.specs.Prelude.{◌≡◌, ℕ, ◌<◌, false, List, [], ◌++◌, map, length}
use Rattle.std.specs.List.{enumerate_from, flat_map}
use Rattle.std.specs.List.Sorted.{IsPermutation}
use Rattle.commit_book.specs.declared.change.Change.{Change}
use Rattle.hub_desk.specs.declared.trim.Trim.{Trim}
use Rattle.hub_model.specs.declared.entry.Entry.{Entry}
use Rattle.hub_model.specs.Desk.{IsPrefix}
use Rattle.hub_model.specs.Legal.{IsLegal}
use Rattle.hub_model.specs.Setting.{Setting}
use Rattle.q_outside.specs.Doors.{DoorsView, Passes}
use Rattle.q_outside.specs.Ends.{End, LastEnd}
use Rattle.kept_desk.specs.Filling.{IsFilling, written_by}
use Rattle.quaestor_serve.specs.declared.hall.Hall.{Hall}
use Rattle.quaestor_serve.specs.declared.serve_end.ServeEnd.{ServeEnd}
use Rattle.quaestor_serve.specs.declared.serve_end.ServeWhy.{ServeWhy}
use Rattle.quaestor_serve.specs.declared.serve_end.ServeWhy.TheVariants.{Limit, Closed, DoorFault, Memory, Unfilled}
use Rattle.quaestor_serve.specs.Going.{Going}
use Rattle.quaestor_serve.specs.Matches.{IsMatched}
use Rattle.quaestor_serve.specs.Visits.{Visit, given_of, back_of, own_of, given_at, AreOrdered, IsWell}
use Rattle.turnstile.specs.Places.{AllOf, AreAt, Distinct}

-- how often the doors were closed
abbrev pub closings_by : ServeWhy → ℕ
closings_by Limit = 0
closings_by Closed = 1
closings_by DoorFault = 0
closings_by Memory = 0
closings_by Unfilled = 0

-- there was no memory for the first connection
abbrev pub IsUnbegun : ServeEnd → Type 0
IsUnbegun end = (end.connections ≡ 0) × (end.why ≡ Memory)

-- the store could not be filled with what was kept
abbrev pub IsUnfilled : ServeEnd → Type 0
IsUnfilled end = (end.connections ≡ 0) × (end.why ≡ Unfilled)

module _ {S K : Type 0} where
  -- the cause of an end after `came` connections, where at most `most` were to come
  abbrev pub EndsBy : ServeWhy → DoorsView S K → DoorsView S K → (came most : ℕ) → Type 0
  EndsBy Limit first last came most = came ≡ most
  EndsBy Closed first last came most = came < most
  EndsBy DoorFault first last came most = (came < most) × (first.faults < last.faults)
  EndsBy Memory first last came most = came < most
  EndsBy Unfilled first last came most = came < most

module _ {S K C H : Type 0} (source_at : S → End) (sink_at : K → End) (ended_at : K → LastEnd) (tick : C → ℕ → C → Type 0) (kept : H → ℕ → Type 0) (may : C → Type 0) (tie : H → Type 0) where
  -- no further connection is waited for, and this is why; `base` are the entries that were made before the first came
  abbrev pub Ends : {L : Type 0} → (base : List (ℕ × Entry)) (first now : DoorsView S K) → Hall S K C H L → ℕ → ServeEnd → Type 0
  Ends base first now h most end = Going source_at sink_at ended_at tick kept may tie base first now h [] end.connections (closings_by end.why) × EndsBy end.why first now end.connections most

  -- The history begins with the entries by which the store was filled with what was kept; without a keeper it began empty. Each connection that came was handed back once, in the order in which they ended, with how it was served: well, in one legal history, by entries of its own. Each knew at its beginning all that was known at the end of each that was handed back before it came. Matchers made entries that match all commits before them or drop old changes as far as the trim says, and no others. Each position of the history belongs to one of these: nobody else made entries. The cause of the end is exact.
  pub record Serves (restores : List (ℕ × Change) → Type 0) (g : Setting) (trim : Trim) (first last : DoorsView S K) (most : ℕ) (end : ServeEnd) : Type 0 where
    pub history : List Entry
    pub legal : IsLegal g history
    -- the connections in the order in which they came, and in that in which they were handed back
    pub came : List (S × K)
    pub visits : List (Visit S K)
    pub came_are : IsPermutation (enumerate_from 0 came) (map given_of visits)
    pub passed : Passes first last came (map back_of visits) (closings_by end.why)
    pub each : AllOf (IsWell source_at sink_at ended_at tick kept may tie g history) visits
    pub ordered : AreOrdered (given_at first) visits
    -- the entries by which the store was filled: they write all that was kept, where a connection came
    pub filled : List Entry
    pub begins : IsPrefix filled history
    pub filling : AllOf IsFilling filled
    pub restored : 0 < end.connections → restores (flat_map written_by filled)
    pub none : g.keeps ≡ false → filled ≡ []
    -- the entries of the matchers, each with its position
    pub others : List (ℕ × Entry)
    pub matching : AllOf (IsMatched tick may g trim history) others
    pub apart : Distinct (enumerate_from 0 filled ++ (flat_map own_of visits ++ others))
    pub at_positions : AreAt history (enumerate_from 0 filled ++ (flat_map own_of visits ++ others))
    pub whole : length history ≡ length (enumerate_from 0 filled ++ (flat_map own_of visits ++ others))
    pub count_is : length visits ≡ end.connections
    pub ends : EndsBy end.why first last end.connections most
