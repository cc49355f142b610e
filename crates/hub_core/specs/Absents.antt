-- Internal. The copies of absent records, where the configuration bounds their lifetime.
use Rattle.std.specs.Prelude.{◌≡◌, ◌≤◌, ℕ, Bool, true, false, nat_lt, List, Option}
use Rattle.issued_expiries.specs.Copies.{Copy, SameCopies, unexpired}
use Rattle.issued_expiries.specs.Expiries.{Issued}
use Rattle.hub_model.specs.declared.entry.Outcome.{Outcome}
use Rattle.hub_model.specs.declared.entry.Outcome.TheVariants.{Whole, Same, Absent}
use Rattle.hub_model.specs.Lifetime.{of_absents}
use Rattle.hub_model.specs.Setting.{Setting}
use Rattle.hub_model.specs.State.{State}
use Rattle.hub_core.specs.Copied.{copies_of}

-- an outcome tells that there is no such record
abbrev pub tells_absence : Outcome → Bool
tells_absence (Whole text version) = false
tells_absence (Same tag version) = false
tells_absence Absent = true

-- the unexpired copies of absent records
abbrev pub absents_of : State → List Copy
absents_of s = copies_of (of_absents s)

-- These are the copies of absent records. Some may have expired since the last of them was issued.
pub record AreAbsents (issued : Issued) (s : State) : Type 0 where
  pub clock : issued.clock ≤ s.clock
  pub copies : SameCopies (unexpired s.clock issued.held) (absents_of s)

-- they are kept where their lifetime is bounded
abbrev pub HasAbsents : Setting → Issued → State → Type 0
HasAbsents g issued s = nat_lt 0 g.ttl_absent ≡ true → AreAbsents issued s
