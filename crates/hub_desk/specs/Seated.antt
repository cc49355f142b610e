-- Internal. A desk at a seat of a turnstile.
use Rattle.std.specs.Prelude.{ℕ, List, Option}
use Rattle.atomic_table.specs.declared.shared.Seat.{Seat}
use Rattle.turnstile.specs.declared.gate.Turnstile.{Turnstile}
use Rattle.turnstile.specs.declared.view.View.{View}
use Rattle.turnstile.specs.Seats.{met, splits}
use Rattle.hub_model.specs.declared.entry.Entry.{Entry}
use Rattle.hub_model.specs.Setting.{Setting}
use Rattle.hub_desk.specs.declared.seated.Seated.{Seated}
use Rattle.hub_desk.specs.HubValue.{HubValueView}

-- the turnstile of a desk
abbrev pub turnstile_of : {R : Type 0} → Seated R → Turnstile HubValueView Entry Setting
turnstile_of desk = desk.turnstile.now

-- the seat of a desk
abbrev pub seat_of : {R : Type 0} → Seated R → Seat (Option HubValueView) (View Entry Setting)
seat_of desk = desk.seat

-- what a desk is tied to: its turnstile; and of its seat the number, the entries that it met, how many seats were split off it, what was seen at its joins, and the levels of the seats that it is made of and of those that were split off these
abbrev pub anchor_of : {R : Type 0} → Seated R → Turnstile HubValueView Entry Setting × (ℕ × (List (ℕ × Entry) × (ℕ × (List (List Entry) × (List ℕ × List ℕ)))))
anchor_of desk = (desk.turnstile.now, (desk.seat.id, (met desk.seat, (splits desk.seat, (desk.seat.me.0.olds, (desk.seat.me.0.levels, desk.seat.me.0.children))))))
