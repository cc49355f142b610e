-- Internal. What a call makes of a hub and of the history that it represents.
use Rattle.std.specs.Prelude.{◌≡◌, List, ◌++◌}
use Rattle.hub_core.specs.HubState.{HubView, IsAt, Represents}
use Rattle.hub_model.specs.declared.entry.Entry.{Entry}
use Rattle.hub_model.specs.Helps.{helps_of}
use Rattle.hub_model.specs.Legal.{Admits}
use Rattle.hub_model.specs.Reply.{reply, reply_in}
use Rattle.hub_model.specs.Setting.{Setting}
use Rattle.hub_model.specs.Step.{after_all, state_of}
use Rattle.hub_desk.specs.HubValue.{entries_for}

-- a hub in the state behind the entries of a call represents the history with them, where the state before them admits the call's own
abbrev pub EntriesAreRepresented : Type 0
EntriesAreRepresented =
    (h new : HubView) (history : List Entry) (e : Entry)
    → Represents h history → Admits (state_of h.setting history) e → new.setting ≡ h.setting
    → IsAt new (after_all h.setting (state_of h.setting history) (entries_for h.setting history e))
    → Represents new (history ++ entries_for h.setting history e)

-- the reply to the call's own entry is that in the state behind the entries ahead of it
abbrev pub RepliesAreBehind : Type 0
RepliesAreBehind =
    (g : Setting) (history : List Entry) (e : Entry)
    → reply g (history ++ helps_of g (state_of g history) e) e ≡ reply_in g (after_all g (state_of g history) (helps_of g (state_of g history) e)) e
