-- Internal. Which hubs the buffers of a connection are for.
use Rattle.std.specs.Prelude.{◌≡◌}
use Rattle.hub_core.specs.PageRoom.{PageRoomView, IsRoomFor}
use Rattle.hub_model.specs.Setting.{Setting}

-- they hold the pages of hubs of this configuration, and know the origins and the hosts that it names
abbrev pub IsFor : Setting → PageRoomView → (config : Setting) → Type 0
IsFor g pages config = IsRoomFor g pages × (config.origins ≡ g.origins) × (config.hosts ≡ g.hosts)
