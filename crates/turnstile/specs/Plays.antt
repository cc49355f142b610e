-- Internal. What a seat learns by each atomic step, of its view and of the slots that it holds, before and after.
use Rattle.std.specs.Prelude.{◌≡◌, ◌⊎◌, ◌==◌, ℕ, List, ◌∷◌, length, Option, Some, MatchBool}
use mathlib.Core.List.{IsPrefix}
use Rattle.atomic_table.specs.Table.{Me, rest}
use Rattle.turnstile.specs.declared.view.View.{View}
use Rattle.turnstile.specs.declared.view.Phase.{Phase}
use Rattle.turnstile.specs.declared.view.Phase.TheVariants.{Free, Taken, Known, Told}
use Rattle.turnstile.specs.Views.{in_phase, with_seen, with_entries}
use Rattle.turnstile.specs.Rule.{Sound, HasAllSeats, IsWhole}

-- the seat has the turn, and has seen the whole history
abbrev pub IsKnowing : {E : Type 0} → Phase E → Type 0
IsKnowing p = (p ≡ Known) ⊎ (p ≡ Told)

module _ {T K E : Type 0} (setting : T → K) (legal : K → List E → Type 0) (stands : T → List E → Type 0) where
  -- the value stands for the history that was found, which is legal under the setting of the value and of the seat
  abbrev pub StandsFor : View E K → T → List E → Type 0
  StandsFor v x found = stands x found × ((k : K) → v.setting ≡ Some k → (setting x ≡ k) × legal k found)

  -- the seat has the turn and the slot with its value
  abbrev pub HasAcquired : Me (Option T) (View E K) → Me (Option T) (View E K) → Type 0
  HasAcquired m n = (x : T) × (found : List E) × (n ≡ (in_phase (Taken found) m.0, (0, Some x) ∷ m.1)) × StandsFor m.0 x found

  -- the seat acquired the turn exactly where the turn word was 0
  abbrev pub acquired : Me (Option T) (View E K) → ℕ → Me (Option T) (View E K) → Type 0
  acquired m r n = MatchBool (r == 0) (HasAcquired m n) (n ≡ m)

-- the seat has seen the whole history, and the answer is its length
abbrev pub observed : {T K E : Type 0} → (K → List E → Type 0) → Me (Option T) (View E K) → ℕ → Me (Option T) (View E K) → Type 0
observed {T} {K} {E} legal m r n = (n.1 ≡ m.1) × (n.0 ≡ with_seen n.0.seen m.0) × (r ≡ length n.0.seen) × IsPrefix m.0.seen n.0.seen × ((k : K) → m.0.setting ≡ Some k → legal k n.0.seen) × Sound n.0.seen n.0
    × ((found : List E) → m.0.phase ≡ Taken found → n.0.seen ≡ found) × (HasAllSeats n.0 → IsWhole n.0.seen n.0)

-- the entries made were appended to all that the seat had seen
abbrev pub appended : {T K E : Type 0} → List E → Me (Option T) (View E K) → ℕ → Me (Option T) (View E K) → Type 0
appended made m r n = (n ≡ (with_entries made m.0, m.1)) × (r ≡ length m.0.seen) × Sound n.0.seen n.0

-- the turn and the slot were given back
abbrev pub released : {T K E : Type 0} → Me (Option T) (View E K) → ℕ → Me (Option T) (View E K) → Type 0
released m r n = n ≡ (in_phase Free m.0, rest m.1)
