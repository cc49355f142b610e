-- Internal. The order of states in time.
use Rattle.std.specs.Prelude.{◌≡◌, ◌≤◌, List, ◌++◌, All}
use Rattle.commit_book.specs.declared.change.Change.{Change}
use Rattle.hub_model.specs.State.{IssuedCopy, State}

-- The second state is later: nothing of the first is gone, and what came to it came behind that.
pub record IsLater (s t : State) : Type 0 where
  pub clock : s.clock ≤ t.clock
  pub front : s.front ≤ t.front
  pub horizon : s.horizon ≤ t.horizon
  -- the changes that were accepted meanwhile
  pub commits : List Change
  pub journal : t.journal ≡ s.journal ++ commits
  -- the copies that were issued meanwhile, none of a commit below the front that was known before
  pub issued : List IssuedCopy
  pub copies : t.copies ≡ s.copies ++ issued
  pub fresh : All (λ r. s.front ≤ r.at) issued
