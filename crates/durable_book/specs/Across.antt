-- Internal. A store that is opened again, and one before it on the same disk.
use Rattle.std.specs.Prelude.{◌≡◌, ℕ, ◌≤◌, List, [], All, length}
use Rattle.hub_model.specs.declared.entry.Entry.{Entry}
use Rattle.hub_model.specs.Desk.{IsPrefix}
use Rattle.hub_model.specs.Setting.{Setting}
use Rattle.hub_model.specs.State.{until_of}
use Rattle.hub_model.specs.Step.{state_of}

-- The history of the later store begins with its opening, in which nothing was read, and behind which all is matched; its journal there begins with that of the earlier one; and the later store's guard is not below the until of any copy that the earlier one issued.
pub record Follows (g later_g : Setting) (history later : List Entry) (guard : ℕ) : Type 0 where
  pub opening : List Entry
  pub begins : IsPrefix opening later
  pub unread : (state_of later_g opening).copies ≡ []
  pub matched : (state_of later_g opening).front ≡ length (state_of later_g opening).journal
  pub journal : IsPrefix (state_of g history).journal (state_of later_g opening).journal
  pub expired : All (λ r. until_of r ≤ guard) (state_of g history).copies
