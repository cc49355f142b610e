-- Internal. What a hall shows, and how it changes as connections leave.
use Rattle.std.specs.Prelude.{◌≡◌, ℕ, ◌+◌, List, ◌∷◌, ◌++◌, length, map, vec_len}
use Rattle.std.specs.Arc.{arc_value}
use Rattle.std.specs.List.Sorted.{IsPermutation}
use Rattle.hub_model.specs.declared.entry.Entry.{Entry}
use Rattle.hub_model.specs.Desk.{IsPrefix}
use Rattle.hub_model.specs.Legal.{IsLegal}
use Rattle.hub_model.specs.Setting.{Setting}
use Rattle.q_outside.specs.Ends.{End, HasEnded, LastEnd}
use Rattle.q_outside.specs.declared.served.Served.{Served}
use Rattle.quaestor_serve.specs.declared.begun.Begun.{Begun}
use Rattle.quaestor_serve.specs.declared.hall.Hall.{Hall}
use Rattle.quaestor_serve.specs.Kept.{setting_at}
use Rattle.quaestor_serve.specs.Running.{begun_of}
use Rattle.quaestor_serve.specs.Served.{IsServed, sides_of}
use Rattle.turnstile.specs.Places.{AllOf, AreAt, Distinct}
use Rattle.turnstile.specs.Seats.{seen, met, HasOut}

module _ {S K C H L : Type 0} where
  -- what the connections that are served began with, in no order
  abbrev pub begun_in : Hall S K C H L → List (Begun S K C H)
  begun_in h = map begun_of h.running.items

  -- the configuration of the hub
  abbrev pub setting_in : Hall S K C H L → Setting
  setting_in h = setting_at (arc_value h.turnstile)

  -- the history that the main seat has seen
  abbrev pub seen_in : Hall S K C H L → List Entry
  seen_in h = seen h.seat

  -- the entries that the main seat has met, with their positions
  abbrev pub met_in : Hall S K C H L → List (ℕ × Entry)
  met_in h = met h.seat

  -- all connections are at the hall's turnstile, and the main seat has seen a legal history
  abbrev pub IsReady : Hall S K C H L → Type 0
  IsReady h = AllOf (λ b. b.turnstile.value ≡ arc_value h.turnstile) (begun_in h) × IsLegal (setting_in h) (seen_in h)

  -- how many places are vacant or have a connection
  abbrev pub places_in : Hall S K C H L → ℕ
  places_in h = length h.running.items + vec_len h.vacant

  -- the hub is the same, and so is the number of places, none of which is lost
  abbrev pub Stays : Hall S K C H L → Hall S K C H L → Type 0
  Stays old new = (arc_value new.turnstile ≡ arc_value old.turnstile) × (new.places ≡ old.places) × (places_in new ≡ places_in old)

  -- the connections' seats are counted: whatever number of others is out of the main seat, it is the same after as before
  abbrev pub KeepsOut : Hall S K C H L → Hall S K C H L → Type 0
  KeepsOut old new = (others : ℕ) → HasOut (others + length old.running.items) old.seat → HasOut (others + length new.running.items) new.seat

  -- the main seat has seen a history that has the entries which this seat has met, each at its position, and no others
  abbrev pub IsWholeIn : Hall S K C H L → Type 0
  IsWholeIn h = (length (seen_in h) ≡ length (met_in h)) × AreAt (seen_in h) (met_in h)

  -- A connection has left, and its sink was ended. It was well served in what the main seat has seen now, by entries that this seat has met now, each at a position of its own.
  pub record Releases (source_at : S → End) (sink_at : K → End) (ended_at : K → LastEnd) (tick : C → ℕ → C → Type 0) (kept : H → ℕ → Type 0) (old new : Hall S K C H L) (source : S) (sink : K) (served : Served) : Type 0 where
    pub begun : Begun S K C H
    pub own : List (ℕ × Entry)
    -- the history that was known when it ended
    pub ended : List Entry
    pub leaves : IsPermutation (begun_in old) (begun ∷ begun_in new)
    pub met : met_in new ≡ met_in old ++ own
    pub once : Distinct (met_in new)
    pub grew : IsPrefix (seen_in old) (seen_in new)
    pub is_served : IsServed tick (kept begun.hand.value) (setting_in new) (seen_in new) begun.clock.value (seen begun.seat.value) ended (sides_of source_at sink_at begun.source.value begun.sink.value) (sides_of source_at sink_at source sink) own served
    pub is_ended : HasEnded (ended_at sink) (sink_at sink).bytes
