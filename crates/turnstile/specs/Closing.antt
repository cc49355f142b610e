-- Internal. What is known when a turnstile is closed.
use Rattle.std.specs.Prelude.{◌≡◌, ◌≢◌, ℕ, List, Option, slice_index, MatchOption}
use mathlib.Core.Option.{some}
use lib.ListN.{get_elem?}
use Rattle.atomic_table.specs.Table.{State}
use Rattle.turnstile.specs.declared.view.View.{View}
use Rattle.turnstile.specs.declared.view.Phase.TheVariants.{Free}
use Rattle.turnstile.specs.Rule.{TableInvariant, HasAllSeats, IsWhole}

-- some seat has a turn that was never given
abbrev pub IsHeld : {E K : Type 0} → List (View E K) → Type 0
IsHeld {E} {K} views = (j : ℕ) × (v : View E K) × (get_elem? views j ≡ some v) × (v.phase ≢ Free)

-- no seat has a turn that was never given
abbrev pub IsFree : {E K : Type 0} → List (View E K) → Type 0
IsFree {E} {K} views = (j : ℕ) (v : View E K) → get_elem? views j ≡ some v → v.phase ≡ Free

-- In the last state the seat has its view. There is no answer where a turn was never given and the turn word is 1; else the answer stands for the history.
pub record Closes {T K E : Type 0} (setting : T → K) (legal : K → List E → Type 0) (stands : T → List E → Type 0) (key : K) (seat : ℕ) (me : View E K) (answer : Option T) : Type 0 where
  pub last : State (Option T) (View E K)
  pub kept : TableInvariant setting legal stands key last
  pub seated : get_elem? last.views seat ≡ some me
  pub answered : MatchOption answer (IsHeld last.views × (slice_index last.words 0 ≡ 1)) (λ x. IsFree last.views × (slice_index last.words 0 ≡ 0) × stands x kept.history × (setting x ≡ key))
  -- where no other seat is left, the history has no entries but this seat's, and there is no answer only where this seat's own turn was never given
  pub whole : HasAllSeats me → IsWhole kept.history me
  pub own : HasAllSeats me → MatchOption answer (me.phase ≢ Free) (λ _. me.phase ≡ Free)
