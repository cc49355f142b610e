-- Internal. Those who match and drop old changes, and the hall at which they do.
use Rattle.std.specs.Prelude.{◌≡◌, ℕ, List, [], ◌++◌}
use Rattle.std.specs.Arc.{arc_value}
use Rattle.hub_desk.specs.HubValue.{hub_setting}
use Rattle.hub_desk.specs.declared.trim.Trim.{Trim}
use Rattle.hub_model.specs.declared.entry.Entry.{Entry}
use Rattle.hub_model.specs.Desk.{IsPrefix}
use Rattle.q_outside.specs.Ends.{Ticks}
use Rattle.quaestor_serve.specs.declared.hall.Hall.{Hall}
use Rattle.quaestor_serve.specs.declared.matcher.Matcher.{Matcher}
use Rattle.quaestor_serve.specs.declared.matcher.Matcher.TheVariants.{Thread, Here}
use Rattle.quaestor_serve.specs.declared.matcher.Rested.{Rested}
use Rattle.quaestor_serve.specs.Halls.{setting_in, seen_in, met_in}
use Rattle.quaestor_serve.specs.Kept.{HubTurnstile, HubSeat, setting_at}
use Rattle.quaestor_serve.specs.Matches.{IsMatchingAt, IsMatched}
use Rattle.turnstile.specs.Places.{AllOf, Distinct}
use Rattle.turnstile.specs.Seats.{IsSeatOf, IsIdle, IsPart, seen, mine, met}

module _ {C : Type 0} (tick : C → ℕ → C → Type 0) (trim : Trim) where
  -- A matcher's seat is one of the turnstile's, has no turn, has met no others, none was split off it, and its entries match all commits before them or drop old changes, at moments that its clock gave.
  pub record HasMatched (turnstile : HubTurnstile) (clock : C) (seat : HubSeat) (late : C) : Type 0 where
    pub own : IsSeatOf hub_setting turnstile seat
    pub idle : IsIdle seat
    pub met : met seat ≡ []
    pub part : IsPart seat
    pub moments : List ℕ
    pub ticks : Ticks tick clock moments late
    pub matching : AllOf (IsMatchingAt (setting_at turnstile) trim (seen seat) moments) (mine seat)

  -- the same of one who rests
  abbrev pub HasRested : HubTurnstile → C → Rested C → Type 0
  HasRested turnstile clock rested = HasMatched turnstile clock rested.seat rested.clock

module _ {C : Type 0} (tick : C → ℕ → C → Type 0) (trim : Trim) (may : C → Type 0) where
  -- the matcher works at this turnstile, with a clock that it may have, and drops as far as the trim says
  abbrev pub WorksAt : HubTurnstile → Matcher C → Type 0
  WorksAt turnstile (Thread handle stop) = (handle.promise.turnstile.value ≡ turnstile) × may handle.promise.clock.value × (handle.promise.trim.value ≡ trim)
  WorksAt turnstile (Here rested) = (clock : C) × may clock × HasRested tick trim turnstile clock rested

  -- all matchers work at the turnstile of the hall
  abbrev pub WorkIn : {S K H L : Type 0} → Hall S K C H L → List (Matcher C) → Type 0
  WorkIn {S} {K} {H} {L} h matchers = AllOf (λ (m : Matcher C). WorksAt (arc_value h.turnstile) m) matchers

  -- Matchers' seats were joined to the main seat: it has met their entries, which match all commits before them or drop old changes, each at a position of its own.
  pub record Gathers {S K H L : Type 0} (old new : Hall S K C H L) : Type 0 where
    pub own : List (ℕ × Entry)
    pub turnstile : arc_value new.turnstile ≡ arc_value old.turnstile
    pub grew : IsPrefix (seen_in old) (seen_in new)
    pub met : met_in new ≡ met_in old ++ own
    pub matching : AllOf (IsMatched tick may (setting_in new) trim (seen_in new)) own
    pub once : Distinct (met_in old) → Distinct (met_in new)

-- the hall has the same connections, and the main seat has met the same entries
abbrev pub IsAsBefore : {S K C H L : Type 0} → Hall S K C H L → Hall S K C H L → Type 0
IsAsBefore old new = (arc_value new.turnstile ≡ arc_value old.turnstile) × (new.places ≡ old.places) × (new.running.items ≡ old.running.items) × (met_in new ≡ met_in old) × (seen_in new ≡ seen_in old)
