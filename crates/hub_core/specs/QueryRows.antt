-- Internal. The rows of a query at a commit, the commits that changed its result, and which listed commit is better than another.
use Rattle.std.specs.Prelude.{◌≡◌, ℕ, ◌<◌, ◌≤◌, ◌==◌, Bool, true, nat_lt, List, Option, Some, None, All}
use Rattle.std.specs.List.{list_any}
use Rattle.q_doc.specs.Printed.{printed}
use Rattle.query_core.specs.Window.{Row}
use Rattle.commit_book.specs.declared.change.Change.{Change}
use Rattle.commit_book.specs.Journal.{text_at}
use Rattle.query_normal.specs.declared.key.KeyShape.{KeyShape}
use Rattle.hub_model.specs.Outdated.{is_changed}

-- the row has the document of its id at the commit, whose printed text the book keeps
abbrev pub IsKept : List Change → ℕ → List ℕ → Row → Type 0
IsKept journal commit collection row = Some (row.1, printed row.2) ≡ text_at journal commit collection row.0

-- each row has the document of its id at the commit
abbrev pub AreKept : List Change → ℕ → List ℕ → List Row → Type 0
AreKept journal commit collection rows = All (IsKept journal commit collection) rows

-- of the commits after one, up to another, those that changed the result of a key are listed, and no others
abbrev pub AreChangesOf : KeyShape → List Change → ℕ → ℕ → List ℕ → Type 0
AreChangesOf key journal from to changed = (n : ℕ) → from < n → n ≤ to → list_any (λ m. m == n) changed ≡ is_changed key journal n

-- a commit is above the one that was found before, if one was
abbrev pub is_better : Option ℕ → ℕ → Bool
is_better None tag = true
is_better (Some commit) tag = nat_lt commit tag
