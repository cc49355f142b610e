-- Internal. What filling a store leaves at a seat, and in a hall.
use Rattle.std.specs.Prelude.{◌≡◌, ℕ, ◌<◌, Bool, false, List, []}
use Rattle.std.specs.Arc.{arc_value}
use Rattle.std.specs.List.{enumerate_from, flat_map}
use Rattle.commit_book.specs.declared.change.Change.{Change}
use Rattle.hub_desk.specs.HubValue.{hub_setting}
use Rattle.hub_model.specs.declared.entry.Entry.{Entry}
use Rattle.kept_desk.specs.Filling.{IsFilling, written_by}
use Rattle.quaestor_serve.specs.declared.hall.Hall.{Hall}
use Rattle.quaestor_serve.specs.Halls.{seen_in, met_in}
use Rattle.quaestor_serve.specs.Kept.{HubTurnstile, HubSeat}
use Rattle.turnstile.specs.Places.{AllOf, Increasing}
use Rattle.turnstile.specs.Seats.{IsSeatOf, IsIdle, IsPart, HasOut, mine, met}

-- The seat is one of the turnstile's, has no turn, has met no others, and none was split off it. Its own entries fill a store, and are in the order in which they were made.
pub record HasFilledAt (turnstile : HubTurnstile) (seat : HubSeat) : Type 0 where
  pub own : IsSeatOf hub_setting turnstile seat
  pub idle : IsIdle seat
  pub met : met seat ≡ []
  pub part : IsPart seat
  pub filling : AllOf (λ (own : ℕ × Entry). IsFilling own.1) (mine seat)
  pub rises : Increasing (mine seat)

-- The main seat has seen a history of entries that fill a store, and has met all of them; all else of the hall is as before.
pub record HasFilled {S K C H L : Type 0} (old new : Hall S K C H L) : Type 0 where
  pub turnstile : arc_value new.turnstile ≡ arc_value old.turnstile
  pub places : new.places ≡ old.places
  pub running : new.running.items ≡ old.running.items
  pub met : met_in new ≡ enumerate_from 0 (seen_in new)
  pub filling : AllOf IsFilling (seen_in new)
  pub out : HasOut 0 new.seat

-- The history that was made before the first connection came: its entries fill a store; they write all that was kept where a connection came, and are none where nobody keeps anything.
pub record AreFilled (kept : List (ℕ × Change) → Type 0) (fails : Bool) (first : List Entry) (count : ℕ) : Type 0 where
  pub filling : AllOf IsFilling first
  pub restored : 0 < count → kept (flat_map written_by first)
  pub none : fails ≡ false → first ≡ []
