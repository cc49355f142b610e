-- Believed. The entries that a call makes ahead of its own.
use Rattle.std.specs.Prelude.{ℕ, ◌+◌, ◌&&◌, if◌then◌else◌, nat_le, nat_lt, List, [], ◌∷◌, length}
use Rattle.hub_model.specs.declared.entry.Entry.{Entry}
use Rattle.hub_model.specs.declared.entry.Entry.TheVariants.{Write, Match}
use Rattle.hub_model.specs.Legal.{most_unmatched}
use Rattle.hub_model.specs.Setting.{Setting}
use Rattle.hub_model.specs.State.{State}
use Rattle.hub_model.specs.Step.{is_accepted}

-- the entries that a call for this one makes ahead of it, after a state: an accepted write that would leave too many commits after the front is helped by a match of all commits before it, and nothing else is helped
abbrev pub helps_of : Setting → State → Entry → List Entry
helps_of g s (Write moment change condition) = if is_accepted g s change condition && nat_le (s.front + most_unmatched) (length s.journal) then Match moment (length s.journal) ∷ [] else []
helps_of g s e = []

-- the match that moves the front from one commit to another, where it moves
abbrev pub match_between : ℕ → ℕ → ℕ → List Entry
match_between moment front later = if nat_lt front later then Match moment later ∷ [] else []
