-- Internal. What a server has done so far: the connections that were handed back, and those that are served.
use Rattle.std.specs.Prelude.{◌≡◌, ℕ, ◌+◌, ◌<◌, ◌≤◌, List, [], ◌++◌, map, length, IfSome}
use Rattle.std.specs.List.{enumerate_from, flat_map}
use Rattle.std.specs.List.Sorted.{IsPermutation}
use Rattle.hub_model.specs.declared.entry.Entry.{Entry}
use Rattle.q_outside.specs.Doors.{DoorsView, Passes}
use Rattle.q_outside.specs.Ends.{End, LastEnd}
use Rattle.quaestor_serve.specs.declared.begun.Begun.{Begun}
use Rattle.quaestor_serve.specs.declared.hall.Hall.{Hall}
use Rattle.quaestor_serve.specs.declared.rounds.Round.{Round}
use Rattle.quaestor_serve.specs.declared.rounds.Round.TheVariants.{Came, NoMemory, Closed, Fault}
use Rattle.quaestor_serve.specs.Halls.{begun_in, setting_in, seen_in, met_in, IsReady, Stays, KeepsOut}
use Rattle.quaestor_serve.specs.Visits.{Visit, given_of, back_of, own_of, given_at, IsKnownTo, AreOrdered, IsWell}
use Rattle.turnstile.specs.Places.{AllOf, Distinct}
use Rattle.turnstile.specs.Seats.{seen}

module _ {S K C H : Type 0} where
  -- the source and the sink that a connection began with, and its number
  abbrev pub began_with : Begun S K C H → ℕ × (S × K)
  began_with begun = (begun.number.value, (begun.source.value, begun.sink.value))

module _ {S K C H L : Type 0} where
  -- the doors keep memory for each connection that is served and for so many more, if they keep any
  abbrev pub HaveRoom : DoorsView S K → Hall S K C H L → ℕ → Type 0
  HaveRoom doors h more = IfSome doors.away (λ n. length h.running.items + more ≤ n)

  -- the connections that were not handed back yet: those that wait for a thread, and those that are served
  abbrev pub open_in : List (Begun S K C H) → Hall S K C H L → List (Begun S K C H)
  open_in waiting h = waiting ++ begun_in h

module _ {S K C H L : Type 0} (source_at : S → End) (sink_at : K → End) (ended_at : K → LastEnd) (tick : C → ℕ → C → Type 0) (kept : H → ℕ → Type 0) (may : C → Type 0) (tie : H → Type 0) (base : List (ℕ × Entry)) where
  -- Since the doors were in their first state, `count` connections came and the doors were closed `closed` times. The visits are the connections that were handed back, in that order, well served by entries at positions of their own; `base` are the entries that were made before the first came. The others wait for a thread or are being served. Each connection knew at its beginning all that was known at the end of each that was handed back before it came.
  pub record Going (first now : DoorsView S K) (h : Hall S K C H L) (waiting : List (Begun S K C H)) (count closed : ℕ) : Type 0 where
    pub came : List (S × K)
    pub visits : List (Visit S K)
    pub came_are : IsPermutation (enumerate_from 0 came) (map given_of visits ++ map began_with (open_in waiting h))
    pub passed : Passes first now came (map back_of visits) closed
    pub each : AllOf (IsWell source_at sink_at ended_at tick kept may tie (setting_in h) (seen_in h)) visits
    pub ordered : AreOrdered (given_at first) visits
    pub later : AllOf (λ v. AllOf (λ b. IsKnownTo (given_at first) v b.number.value (seen b.seat.value)) (open_in waiting h)) visits
    pub met : met_in h ≡ base ++ flat_map own_of visits
    pub once : Distinct (met_in h)
    pub count_is : length came ≡ count
    pub clocks : AllOf (λ b. may b.clock.value) (open_in waiting h)
    pub hands : AllOf (λ b. tie b.hand.value) (open_in waiting h)

  -- what the server has done after one round more
  abbrev pub GoesOn : (first now : DoorsView S K) → Hall S K C H L → ℕ → Round → Type 0
  GoesOn first now h count Came = Going first now h [] (count + 1) 0
  GoesOn first now h count NoMemory = Going first now h [] count 0
  GoesOn first now h count Closed = Going first now h [] count 1
  GoesOn first now h count Fault = Going first now h [] count 0 × (first.faults < now.faults)

-- Connections that had ended were handed back, and no others came. `is_clone` says which clocks a clock may have as clones, and `is_at` which hands a place may have where commits are kept.
pub record HandsBack {S K C H L P : Type 0} (source_at : S → End) (sink_at : K → End) (ended_at : K → LastEnd) (tick : C → ℕ → C → Type 0) (kept : H → ℕ → Type 0) (is_clone : C → C → Type 0) (is_at : P → H → Type 0) (before after : DoorsView S K) (old new : Hall S K C H L) : Type 0 where
  pub stays : Stays old new
  pub ready : IsReady new
  pub out : KeepsOut old new
  pub fewer : length new.running.items ≤ length old.running.items
  pub room : (more : ℕ) → HaveRoom before old more → HaveRoom after new more
  pub faults : before.faults ≤ after.faults
  pub going : (clock : C) (place : P) (base : List (ℕ × Entry)) (first : DoorsView S K) (waiting : List (Begun S K C H)) (count closed : ℕ) → Going source_at sink_at ended_at tick kept (is_clone clock) (is_at place) base first before old waiting count closed → Going source_at sink_at ended_at tick kept (is_clone clock) (is_at place) base first after new waiting count closed
