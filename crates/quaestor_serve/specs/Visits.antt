-- Believed. A connection that was served, from its beginning to its end.
use Rattle.std.specs.Prelude.{ℕ, ◌+◌, ◌≤◌, List, Some, unwrap_or}
use Rattle.hub_model.specs.declared.entry.Entry.{Entry}
use Rattle.hub_model.specs.Desk.{IsPrefix}
use Rattle.hub_model.specs.Setting.{Setting}
use Rattle.q_outside.specs.Doors.{DoorsView}
use Rattle.q_outside.specs.Ends.{End, HasEnded, LastEnd}
use Rattle.q_outside.specs.declared.connections.Back.{Back}
use Rattle.q_outside.specs.declared.served.Served.{Served}
use Rattle.quaestor_serve.specs.Served.{IsServed, sides_of}
use Rattle.turnstile.specs.Places.{AllOf}

-- A connection that was served.
pub record Visit (S K : Type 0) : Type 0 where
  -- how many connections came before it
  pub number : ℕ
  -- its source and its sink as they were given
  pub source : S
  pub sink : K
  -- and as they were left
  pub source_left : S
  pub sink_left : K
  pub served : Served
  -- the entries that it made, each with its position in the history
  pub own : List (ℕ × Entry)
  -- how many connections the doors had given when it was handed back
  pub after : ℕ
  -- the history that was known when it began, and when it ended
  pub began : List Entry
  pub ended : List Entry

module _ {S K : Type 0} where
  -- the connection as the doors gave it, with its number
  abbrev pub given_of : Visit S K → ℕ × (S × K)
  given_of visit = (visit.number, (visit.source, visit.sink))

  -- the connection as it was handed back
  abbrev pub back_of : Visit S K → Back S K
  back_of visit = record { source = visit.source_left; sink = visit.sink_left; served = Some visit.served; after = visit.after }

  -- its entries
  abbrev pub own_of : Visit S K → List (ℕ × Entry)
  own_of visit = visit.own

  -- how many connections the doors had given, or none where they do not count them
  abbrev pub given_at : DoorsView S K → ℕ
  given_at doors = unwrap_or doors.given 0

  -- Where the connection was handed back before the one of this number came, that one knew at its beginning all that was known at the end of this one. The doors had given `start` connections before the first.
  abbrev pub IsKnownTo : (start : ℕ) → Visit S K → (number : ℕ) → (began : List Entry) → Type 0
  IsKnownTo start visit number began = visit.after ≤ start + number → IsPrefix visit.ended began

  -- so each of these connections knew at its beginning all that was known at the end of each that was handed back before it came
  abbrev pub AreOrdered : (start : ℕ) → List (Visit S K) → Type 0
  AreOrdered start visits = AllOf (λ v. AllOf (λ w. IsKnownTo start v w.number w.began) visits) visits

module _ {S K C H : Type 0} (source_at : S → End) (sink_at : K → End) (ended_at : K → LastEnd) (tick : C → ℕ → C → Type 0) (kept : H → ℕ → Type 0) (may : C → Type 0) (tie : H → Type 0) where
  -- the connection was well served in the history, at moments of a clock that it may have had, with a hand that it may have had of who keeps its commits, and its sink was ended behind all that was given
  abbrev pub IsWell : Setting → List Entry → Visit S K → Type 0
  IsWell g history visit = (clock : C) × may clock × (hand : H) × tie hand × IsServed tick (kept hand) g history clock visit.began visit.ended (sides_of source_at sink_at visit.source visit.sink) (sides_of source_at sink_at visit.source_left visit.sink_left) visit.own visit.served × HasEnded (ended_at visit.sink_left) (sink_at visit.sink_left).bytes
