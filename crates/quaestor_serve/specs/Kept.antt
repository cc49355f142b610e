-- Internal. What a thread that serves a connection needs, and what it leaves.
use Rattle.std.specs.Prelude.{◌≡◌, ℕ, [], Option, Some, slice_get}
use Rattle.hub_desk.specs.HubValue.{HubValueView, hub_setting}
use Rattle.hub_model.specs.declared.entry.Entry.{Entry}
use Rattle.hub_model.specs.Legal.{IsLegal}
use Rattle.hub_model.specs.Setting.{Setting}
use Rattle.q_outside.specs.Ends.{End, HasEnded, LastEnd}
use Rattle.quaestor_serve.specs.declared.begun.Begun.{Begun}
use Rattle.quaestor_serve.specs.declared.begun.Done.{Done}
use Rattle.quaestor_serve.specs.declared.pool.Pool.{Pool}
use Rattle.quaestor_serve.specs.Served.{IsServed, sides_of}
use Rattle.atomic_table.specs.declared.shared.Seat.{Seat}
use Rattle.turnstile.specs.Seats.{IsSeatOf, IsIdle, IsPart, seen, mine, met, setting_of}
use Rattle.turnstile.specs.declared.gate.Turnstile.{Turnstile}
use Rattle.turnstile.specs.declared.view.View.{View}

-- a turnstile of a hub
abbrev pub HubTurnstile : Type 0
HubTurnstile = Turnstile HubValueView Entry Setting

-- a seat at one
abbrev pub HubSeat : Type 0
HubSeat = Seat (Option HubValueView) (View Entry Setting)

-- the configuration of the turnstile's hub
abbrev pub setting_at : HubTurnstile → Setting
setting_at turnstile = setting_of hub_setting turnstile

-- the seat is the first one of its turnstile
abbrev pub IsFirst : HubSeat → Type 0
IsFirst seat = slice_get seat.me.0.levels 0 ≡ Some 0

-- The seat is one of the turnstile's, split off the main one, has no turn and no entries, has no seats of its own, and has seen a legal history.
pub record IsFreshAt (turnstile : HubTurnstile) (seat : HubSeat) : Type 0 where
  pub own : IsSeatOf hub_setting turnstile seat
  pub idle : IsIdle seat
  pub mine : mine seat ≡ []
  pub met : met seat ≡ []
  pub part : IsPart seat
  pub legal : IsLegal (setting_at turnstile) (seen seat)

-- the seat is fresh, and the pool's buffers are for the turnstile's hub
abbrev pub MayBegin : HubTurnstile → HubSeat → Pool → Type 0
MayBegin turnstile seat pool = IsFreshAt turnstile seat × (pool.config ≡ setting_at turnstile)

module _ {S K C H : Type 0} (source_at : S → End) (sink_at : K → End) (ended_at : K → LastEnd) (tick : C → ℕ → C → Type 0) (kept : H → ℕ → Type 0) where
  -- A connection that began with these, a hand of who keeps its commits among them, and with all that this seat had seen, was well served in what its seat has seen, by the seat's own entries, and its sink was ended behind all that was given. The seat has no turn, has met no others, and none was split off it.
  pub record Kept (turnstile : HubTurnstile) (seat : HubSeat) (source : S) (sink : K) (clock : C) (hand : H) (done : Done S K) : Type 0 where
    pub own : IsSeatOf hub_setting turnstile done.seat
    pub idle : IsIdle done.seat
    pub met : met done.seat ≡ []
    pub part : IsPart done.seat
    pub served : IsServed tick (kept hand) (setting_at turnstile) (seen done.seat) clock (seen seat) (seen done.seat) (sides_of source_at sink_at source sink) (sides_of source_at sink_at done.source done.sink) (mine done.seat) done.served
    pub is_ended : HasEnded (ended_at done.sink) (sink_at done.sink).bytes

  -- the same of all that it began with
  abbrev pub KeptOf : Begun S K C H → Done S K → Type 0
  KeptOf begun done = Kept begun.turnstile.value begun.seat.value begun.source.value begun.sink.value begun.clock.value begun.hand.value done
