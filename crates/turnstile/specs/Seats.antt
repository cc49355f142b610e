-- Internal. Seats of a turnstile. `setting` and `stands` are those of the value.
use Rattle.std.specs.Prelude.{◌≡◌, ℕ, List, [], ◌∷◌, Option, Some, None}
use Rattle.atomic_table.specs.Table.{rest}
use Rattle.atomic_table.specs.declared.shared.Seat.{Seat}
use Rattle.turnstile.specs.declared.gate.Turnstile.{Turnstile}
use Rattle.turnstile.specs.declared.view.View.{View}
use Rattle.turnstile.specs.declared.view.Phase.TheVariants.{Free}
use Rattle.turnstile.specs.Levels.{Out}
use Rattle.turnstile.specs.Rule.{HasAllSeats}

-- the setting of the turnstile's value
abbrev pub setting_of : {T E K : Type 0} → (T → K) → Turnstile T E K → K
setting_of setting t = setting t.board.shared.key.value

module _ {T E K : Type 0} where
  -- the prefix of the history that the seat has seen
  abbrev pub seen : Seat (Option T) (View E K) → List E
  seen s = s.me.0.seen

  -- the seat's own entries, each with its place
  abbrev pub mine : Seat (Option T) (View E K) → List (ℕ × E)
  mine s = s.me.0.mine

  -- the entries of the seats that were joined to it, with their places
  abbrev pub met : Seat (Option T) (View E K) → List (ℕ × E)
  met s = s.me.0.met

  -- how many seats were split off it
  abbrev pub splits : Seat (Option T) (View E K) → ℕ
  splits s = s.me.0.splits

  -- no other seat is left: all that were ever split off were joined to this one
  abbrev pub IsAlone : Seat (Option T) (View E K) → Type 0
  IsAlone s = HasAllSeats s.me.0

  -- it is the first seat, and so many of the seats that were split off it are not joined to it
  abbrev pub HasOut : ℕ → Seat (Option T) (View E K) → Type 0
  HasOut count s = Out count s.me.0.levels s.me.0.children

  -- it was split off the first seat, and no seat was split off it or joined to it
  abbrev pub IsPart : Seat (Option T) (View E K) → Type 0
  IsPart s = (s.me.0.levels ≡ 1 ∷ []) × (s.me.0.children ≡ [])

  -- the seat has no turn
  abbrev pub IsIdle : Seat (Option T) (View E K) → Type 0
  IsIdle s = (s.me.0.phase ≡ Free) × (s.me.1 ≡ [])

  -- the seat is one of the turnstile's
  abbrev pub IsSeatOf : (T → K) → Turnstile T E K → Seat (Option T) (View E K) → Type 0
  IsSeatOf setting t s = (s.table_id ≡ t.board.shared.table_id) × (s.me.0.setting ≡ Some (setting_of setting t))

  -- it is the same seat, though it may know more
  abbrev pub IsSame : Seat (Option T) (View E K) → Seat (Option T) (View E K) → Type 0
  IsSame s t = (t.table_id ≡ s.table_id) × (t.id ≡ s.id) × (t.me.0.setting ≡ s.me.0.setting)

  -- the seat has the slot, with a value that stands for all that it has seen
  abbrev pub HasValue : (T → K) → (T → List E → Type 0) → Seat (Option T) (View E K) → Type 0
  HasValue setting stands s = (x : T) × (s.me.1 ≡ (0, Some x) ∷ rest s.me.1) × stands x (seen s) × (s.me.0.setting ≡ Some (setting x))

  -- the seat has the slot, and the value was taken out of it
  abbrev pub IsOut : Seat (Option T) (View E K) → Type 0
  IsOut s = s.me.1 ≡ (0, None) ∷ rest s.me.1
