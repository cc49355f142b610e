-- Internal. What contracts see of a hub as the value of a turnstile, and what its calls add to the history.
use Rattle.std.specs.Prelude.{◌≡◌, ℕ, List, [], ◌∷◌, ◌++◌, length, Some}
use Rattle.hub_core.specs.HubState.{HubView, Represents}
use Rattle.hub_core.specs.PageRoom.{PageRoomView}
use Rattle.hub_model.specs.declared.entry.Entry.{Entry}
use Rattle.hub_model.specs.declared.entry.Entry.TheVariants.{Fetch}
use Rattle.hub_model.specs.Helps.{helps_of}
use Rattle.hub_model.specs.Reply.{Replied, fetched, reply}
use Rattle.hub_model.specs.Setting.{Setting}
use Rattle.hub_model.specs.Step.{state_of}
use Rattle.query_normal.specs.Pages.{Page}

-- What contracts see of a hub as the value of a turnstile.
pub record HubValueView : Type 0 where
  pub hub : HubView
  -- the number of entries that the hub represents
  pub count : ℕ

-- the configuration of the hub
abbrev pub hub_setting : HubValueView → Setting
hub_setting value = value.hub.setting

-- The hub represents the history, and the count is its length.
pub record StandsFor (value : HubValueView) (history : List Entry) : Type 0 where
  pub represents : Represents value.hub history
  pub counted : value.count ≡ length history

-- whatever history the value stood for, it stands for still
abbrev pub StandsStill : HubValueView → HubValueView → Type 0
StandsStill old new = (history : List Entry) → StandsFor old history → StandsFor new history

-- the entries of a call for this one, after a history: those that come ahead of it, and this one
abbrev pub entries_for : Setting → List Entry → Entry → List Entry
entries_for g history e = helps_of g (state_of g history) e ++ e ∷ []

-- The value stands for the history with the entries of a call, and what was told is the reply to the call's own entry there.
pub record HasAdded (g : Setting) (history : List Entry) (value : HubValueView) (e : Entry) (told : Replied) : Type 0 where
  pub stands : StandsFor value (history ++ entries_for g history e)
  pub told_is : told ≡ reply g (history ++ helps_of g (state_of g history) e) e

-- so it is of whatever history the value stood for
abbrev pub Adds : HubValueView → HubValueView → Entry → Replied → Type 0
Adds old new e told = (history : List Entry) → StandsFor old history → HasAdded (hub_setting old) history new e told

-- The same of an entry that fetches a page, which the buffer has.
pub record HasAddedPage (g : Setting) (history : List Entry) (value : HubValueView) (moment : ℕ) (room : PageRoomView) : Type 0 where
  pub page : Page
  pub held : room.page ≡ Some page
  pub added : HasAdded g history value (Fetch moment) (fetched page)

-- so it is of whatever history the value stood for
abbrev pub AddsPage : HubValueView → HubValueView → ℕ → PageRoomView → Type 0
AddsPage old new moment room = (history : List Entry) → StandsFor old history → HasAddedPage (hub_setting old) history new moment room
