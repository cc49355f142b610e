-- Internal. What a caller knows of a record, by the version of its document.
use Rattle.std.specs.Prelude.{◌≡◌, ℕ, ◌≤◌, Bool, ◌&&◌, nat_le, max, List, filter, Contains, Option, Some}
use Rattle.std.specs.List.{reduce}
use Rattle.query_normal.specs.declared.key.KeyShape.{KeyShape}
use Rattle.commit_book.specs.declared.change.Change.{Change}
use Rattle.hub_model.specs.declared.entry.Tags.{Tags}
use Rattle.hub_model.specs.declared.entry.Tags.TheVariants.{Any, Listed}
use Rattle.hub_model.specs.Journal.{result_at}

-- a commit from a version on, and not above another
abbrev pub is_since : ℕ → ℕ → ℕ → Bool
is_since version at t = nat_le version t && nat_le t at

-- the commit by which a caller knows a document of this version that is read at a commit
abbrev pub known_since : ℕ → ℕ → Tags → Option ℕ
known_since version at Any = Some at
known_since version at (Listed tags) = reduce max (filter (is_since version at) tags)

-- The greatest of the listed commits that are not below the horizon and not above another, and find the same.
pub record IsGreatestSame (key : KeyShape) (journal : List Change) (horizon at : ℕ) (tags : List ℕ) (tag : ℕ) : Type 0 where
  pub listed : Contains tags tag
  pub kept : horizon ≤ tag
  pub within : tag ≤ at
  pub same : result_at key journal tag ≡ result_at key journal at
  pub greatest : (t : ℕ) → Contains tags t → horizon ≤ t → t ≤ at → result_at key journal t ≡ result_at key journal at → t ≤ tag
