-- Internal. What contracts see of a link that gives what it was made of.
use Rattle.std.specs.Prelude.{None, Option}
use Rattle.hub_model.specs.Setting.{default_setting}
use Rattle.client_session.specs.declared.ask.LinkRefusal.{LinkRefusal}
use Rattle.client_session.specs.declared.last.LastReplies.{LastReplies}
use Rattle.client_session.specs.declared.list_link.ListLink.{ListLink}
use Rattle.client_session.specs.Link.{LinkView, HasCounted}

-- its counts and its last replies, and no history
abbrev pub view_of : ListLink → LinkView
view_of l = record { setting = default_setting; history = None; faults = l.faults; bad_replies = l.bad_replies; last = l.last }

-- the counts rose as this answer asks, whatever is then kept of it
abbrev pub IsCounted : ListLink → ListLink → Option LinkRefusal → Type 0
IsCounted old new reason = (last : LastReplies) → HasCounted (view_of old) (record (view_of new) { last = last }) reason
