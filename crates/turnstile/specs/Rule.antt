-- Internal. What holds between any two atomic steps of a turnstile.
use Rattle.std.specs.Prelude.{◌≡◌, ◌≢◌, ℕ, zero, suc, ◌+◌, ◌<◌, ◌≤◌, List, [], ◌∷◌, ◌++◌, length, Option, Some, None}
use mathlib.Core.Option.{some}
use mathlib.Core.List.{IsPrefix}
use lib.ListN.{get_elem?}
use Rattle.atomic_table.specs.Table.{State}
use Rattle.turnstile.specs.declared.view.View.{View}
use Rattle.turnstile.specs.declared.view.Phase.{Phase}
use Rattle.turnstile.specs.declared.view.Phase.TheVariants.{Free, Taken, Known, Told}
use Rattle.turnstile.specs.Places.{AllOf, AreAt, Increasing, Distinct, Disjoint}
use Rattle.turnstile.specs.Levels.{total, occurs, AreAll, Lineage}

-- the turn word, where holder is 0 for nobody and one more than the number of the seat that has the turn
abbrev pub turn_word : ℕ → ℕ
turn_word zero = 0
turn_word (suc n) = 1

module _ {E : Type 0} (history : List E) (holder seat : ℕ) (seen : List E) where
  -- whether the seat has the turn, and how much of the history it or its value knows then
  abbrev pub InPhase : Phase E → Type 0
  InPhase Free = holder ≢ seat + 1
  InPhase (Taken found) = (holder ≡ seat + 1) × (found ≡ history)
  InPhase Known = (holder ≡ seat + 1) × (seen ≡ history)
  InPhase Told = (holder ≡ seat + 1) × (seen ≡ history)

-- A seat's own entries, and those that it met, are in the history, each at a place of its own.
pub record SoundOf {E : Type 0} (history : List E) (mine met : List (ℕ × E)) (olds : List (List E)) : Type 0 where
  pub mine_stand : AreAt history mine
  pub met_stand : AreAt history met
  pub rises : Increasing mine
  pub once : Distinct met
  pub away : Disjoint mine met
  -- what was seen at the joins
  pub olds_begin : AllOf (λ (o : List E). IsPrefix o history) olds

-- the same of a view
abbrev pub Sound : {E K : Type 0} → List E → View E K → Type 0
Sound history v = SoundOf history v.mine v.met v.olds

-- the entries that a seat has a claim to: its own, and those that it met
abbrev pub claims : {E K : Type 0} → View E K → List (ℕ × E)
claims v = v.mine ++ v.met

-- a seat that was joined to another has no entries and no turn
abbrev pub IsDoneIfSpent : {E K : Type 0} → View E K → Type 0
IsDoneIfSpent v = v.setting ≡ None → (claims v ≡ []) × (v.phase ≡ Free)

-- What is true of the view of one seat.
pub record ViewInvariant {E K : Type 0} (key : K) (history : List E) (holder seat : ℕ) (v : View E K) : Type 0 where
  pub prefix : IsPrefix v.seen history
  pub phase : InPhase history holder seat v.seen v.phase
  pub keyed : (k : K) → v.setting ≡ Some k → k ≡ key
  pub sound : Sound history v
  pub lineage : Lineage v.setting v.levels v.children
  pub done : IsDoneIfSpent v

-- no two seats claim the same place
abbrev pub AreDisjoint : {E K : Type 0} → List (View E K) → Type 0
AreDisjoint {E} {K} views = (i j : ℕ) (v w : View E K) → i ≢ j → get_elem? views i ≡ some v → get_elem? views j ≡ some w → Disjoint (claims v) (claims w)

-- each place of the history is claimed by one seat: they are as many as the entries claimed
abbrev pub AreClaimed : {E K : Type 0} → List E → List (View E K) → Type 0
AreClaimed history views = length history ≡ total (λ v. length (claims v)) views

-- each seat but the first was split off another
abbrev pub AreDescended : {E K : Type 0} → List (View E K) → Type 0
AreDescended views = (n : ℕ) → total (λ v. occurs n v.levels) views ≡ occurs n (0 ∷ []) + total (λ v. occurs n v.children) views

-- no other seat is left: all that were ever split off were joined to this one
abbrev pub HasAllSeats : {E K : Type 0} → View E K → Type 0
HasAllSeats v = AreAll v.levels v.children

-- the history has no entries but those that the seat has a claim to
abbrev pub IsWhole : {E K : Type 0} → List E → View E K → Type 0
IsWhole history v = length history ≡ length v.mine + length v.met

-- The words say who has the turn and how long the history is, and a value in the slot stands for the history.
pub record TableInvariant {T K E : Type 0} (setting : T → K) (legal : K → List E → Type 0) (stands : T → List E → Type 0) (key : K) (s : State (Option T) (View E K)) : Type 0 where
  pub history : List E
  pub holder : ℕ
  pub words : s.words ≡ turn_word holder ∷ length history ∷ []
  pub one_slot : length s.homes ≡ 1
  pub seated : holder ≤ length s.views
  pub lawful : legal key history
  pub small : length history < 18446744073709551616
  pub home : holder ≡ 0 → (x : T) × (get_elem? s.homes 0 ≡ some (some (Some x))) × stands x history × (setting x ≡ key)
  pub each : (j : ℕ) (v : View E K) → get_elem? s.views j ≡ some v → ViewInvariant key history holder j v
  pub apart : AreDisjoint s.views
  pub claimed : AreClaimed history s.views
  pub descended : AreDescended s.views
