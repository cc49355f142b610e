-- Believed. What a desk does that fills a store with what was kept.
use Rattle.std.specs.Prelude.{◌≡◌, ℕ, List, [], ◌∷◌, ◌++◌, flat_map}
use Rattle.commit_book.specs.declared.change.Change.{Change}
use Rattle.hub_model.specs.declared.entry.Entry.{Entry}
use Rattle.hub_model.specs.declared.entry.Entry.TheVariants.{Write, Match, Tick, Horizon}
use Rattle.hub_model.specs.declared.entry.Condition.TheVariants.{Always}
use Rattle.hub_model.specs.Desk.{IsPrefix}
use Rattle.hub_model.specs.Legal.{IsLegal}
use Rattle.hub_model.specs.Setting.{Setting}
use Rattle.turnstile.specs.Places.{AllOf}

-- an entry that fills a store: a write under no condition, a match, a drop of old changes, or a tick
abbrev pub IsFilling : Entry → Type 0
IsFilling (Write moment change condition) = condition ≡ Always
IsFilling (Match moment to) = Unit {0}
IsFilling (Horizon moment to) = Unit {0}
IsFilling (Tick moment) = Unit {0}
IsFilling e = ⊥

-- The desk has filled its store: its history grew, and each of its own entries since is such a one.
pub record Fills (g : Setting) (old new : List Entry) (mine_old mine_new : List (ℕ × Entry)) : Type 0 where
  pub grew : IsPrefix old new
  pub legal : IsLegal g old → IsLegal g new
  pub entries : List (ℕ × Entry)
  pub mine : mine_new ≡ mine_old ++ entries
  pub filling : AllOf (λ (own : ℕ × Entry). IsFilling own.1) entries

-- the change that an entry writes, with its moment
abbrev pub written_by : Entry → List (ℕ × Change)
written_by (Write moment change condition) = (moment, change) ∷ []
written_by e = []

-- the changes that entries write, in order
abbrev pub writes_in : List (ℕ × Entry) → List (ℕ × Change)
writes_in entries = flat_map (λ (own : ℕ × Entry). written_by own.1) entries

-- by its own entries since, the desk has written these changes at these moments, in this order, and no others
abbrev pub Writes : (mine_old mine_new : List (ℕ × Entry)) → List (ℕ × Change) → Type 0
Writes mine_old mine_new changes = writes_in mine_new ≡ writes_in mine_old ++ changes
