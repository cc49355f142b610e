-- Believed. Which histories are legal.
use Rattle.std.specs.Prelude.{ℕ, ◌+◌, ◌<◌, ◌≤◌, List, [], ◌∷◌, length}
use Rattle.hub_model.specs.declared.entry.Entry.{Entry}
use Rattle.hub_model.specs.declared.entry.Entry.TheVariants.{Read, Match, Horizon}
use Rattle.hub_model.specs.Setting.{Setting}
use Rattle.hub_model.specs.State.{State, start}
use Rattle.hub_model.specs.Step.{after}

-- how many commits may come after the front
abbrev pub most_unmatched : ℕ
most_unmatched = 1024

-- no more commits come after the front
abbrev pub HasFewUnmatched : State → Type 0
HasFewUnmatched s = length s.journal ≤ s.front + most_unmatched

-- what an entry asks of the state before it: a read is of a commit from the front on, a match raises the front, a drop raises the horizon and not above the front, and nothing else is asked
abbrev pub Admits : State → Entry → Type 0
Admits s (Read moment key tags at) = (s.front ≤ at) × (at ≤ length s.journal)
Admits s (Match moment to) = (s.front < to) × (to ≤ length s.journal)
Admits s (Horizon moment to) = (s.horizon < to) × (to ≤ s.front)
Admits s e = Unit {0}

-- an entry may follow a state that admits it, where few commits come after the front then
abbrev pub MayFollow : Setting → State → Entry → Type 0
MayFollow g s e = Admits s e × HasFewUnmatched (after g s e)

-- a state goes on by these entries: each may follow those before it
abbrev pub IsLegalFrom : Setting → State → List Entry → Type 0
IsLegalFrom g s [] = Unit {0}
IsLegalFrom g s (e ∷ es) = MayFollow g s e × IsLegalFrom g (after g s e) es

-- each entry of the history may follow those before it
unfoldable pub IsLegal : Setting → List Entry → Type 0
IsLegal g history = IsLegalFrom g start history
