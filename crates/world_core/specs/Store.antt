-- Internal. What contracts see of the store of a run, and what its calls do.
use Rattle.std.specs.Prelude.{◌≡◌, ℕ, ◌+◌, min, List, [], ◌∷◌, ◌++◌, length, Option, Some, None}
use Rattle.q_base.specs.Moment.{greatest_moment}
use Rattle.query_normal.specs.Pages.{Page}
use Rattle.query_normal.specs.declared.key.KeyShape.{KeyShape}
use Rattle.commit_book.specs.declared.change.Change.{Change}
use Rattle.hub_core.specs.PageRoom.{IsRoomFor, PageRoomView}
use Rattle.hub_desk.specs.Desk.{OwnedView, matching}
use Rattle.hub_desk.specs.HubValue.{entries_for}
use Rattle.hub_model.specs.declared.entry.Answer.{Answer}
use Rattle.hub_model.specs.declared.entry.Condition.{Condition}
use Rattle.hub_model.specs.declared.entry.Entry.{Entry}
use Rattle.hub_model.specs.declared.entry.Entry.TheVariants.{Write, Read, Fetch, Purges}
use Rattle.hub_model.specs.declared.entry.Tags.{Tags}
use Rattle.hub_model.specs.declared.entry.Tags.TheVariants.{Listed}
use Rattle.hub_model.specs.declared.entry.Written.{Written}
use Rattle.hub_model.specs.Desk.{IsPrefix}
use Rattle.hub_model.specs.Helps.{helps_of}
use Rattle.hub_model.specs.Legal.{IsLegal}
use Rattle.hub_model.specs.Record.{page_of}
use Rattle.hub_model.specs.Reply.{answered, written, purges_from, PurgesTold}
use Rattle.hub_model.specs.Setting.{IsWithinLimits, Setting}
use Rattle.hub_model.specs.State.{State, at_moment}
use Rattle.hub_model.specs.Step.{after_all, state_of}

-- What contracts see of the store of a run.
pub record StoreView : Type 0 where
  pub setting : Setting
  -- the history, whole
  pub entries : List Entry
  -- the moment of the next entry
  pub moment : ℕ

-- the store of a desk at a moment
abbrev pub store_of : OwnedView → ℕ → StoreView
store_of d moment = record { setting = d.setting; entries = d.entries; moment = moment }

-- what the history has come to
abbrev pub state_in : StoreView → State
state_in s = state_of s.setting s.entries

-- the same at the moment of the next entry
abbrev pub state_now : StoreView → State
state_now s = at_moment (state_in s) s.moment

-- with these entries more
abbrev pub with_entries : StoreView → List Entry → StoreView
with_entries s es = record s { entries = s.entries ++ es }

-- the tags of a read: a known one, or none
abbrev pub tags_of : Option ℕ → Tags
tags_of None = Listed []
tags_of (Some tag) = Listed (tag ∷ [])

-- the number of commits
abbrev pub commits_in : StoreView → ℕ
commits_in s = length (state_in s).journal

-- the entry of a read with these tags: at the last commit
abbrev pub entry_with : StoreView → KeyShape → Tags → Entry
entry_with s key tags = Read s.moment key tags (commits_in s)

-- the same of a tag
abbrev pub read_entry : StoreView → KeyShape → Option ℕ → Entry
read_entry s key tag = entry_with s key (tags_of tag)

-- after a read
abbrev pub with_read : StoreView → KeyShape → Option ℕ → StoreView
with_read s key tag = with_entries s (read_entry s key tag ∷ [])

-- the answer to a read with these tags
abbrev pub answer_with : StoreView → KeyShape → Tags → Answer
answer_with s key tags = answered s.setting key tags (commits_in s) (state_now s)

-- the same of a tag
abbrev pub answer_to : StoreView → KeyShape → Option ℕ → Answer
answer_to s key tag = answer_with s key (tags_of tag)

-- the answer to a write, behind the entries that come ahead of it
abbrev pub written_to : StoreView → Change → Condition → Written
written_to s change condition =
    written s.setting change condition (at_moment (after_all s.setting (state_in s) (helps_of s.setting (state_in s) (Write s.moment change condition))) s.moment)

-- after a write
abbrev pub after_write : StoreView → Change → Condition → StoreView
after_write s change condition = with_entries s (entries_for s.setting s.entries (Write s.moment change condition))

-- after all commits were matched
abbrev pub after_match : StoreView → StoreView
after_match s = with_entries s (matching (state_in s) s.moment ∷ [])

-- after a page was fetched
abbrev pub after_page : StoreView → StoreView
after_page s = with_entries s (Fetch s.moment ∷ [])

-- the page that is fetched
abbrev pub page_now : StoreView → Page
page_now s = page_of s.setting (state_now s)

-- after the purges from a number on were asked for
abbrev pub after_purges : StoreView → ℕ → StoreView
after_purges s from = with_entries s (Purges s.moment from ∷ [])

-- the answer to that
abbrev pub purges_now : StoreView → ℕ → PurgesTold
purges_now s from = purges_from from (state_now s)

-- after some seconds; the history stays
abbrev pub advanced : StoreView → ℕ → StoreView
advanced s seconds = record s { moment = min (s.moment + seconds) greatest_moment }

-- The history may have gained entries, and stays legal; all else stays.
pub record HasGrown (old new : StoreView) : Type 0 where
  pub grew : IsPrefix old.entries new.entries
  pub legal : IsLegal old.setting old.entries → IsLegal new.setting new.entries
  pub setting : new.setting ≡ old.setting
  pub moment : new.moment ≡ old.moment

-- The setting of a store is within the limits, and its buffer is for the pages of such a hub.
pub record IsSoundStore (g : Setting) (buffer : PageRoomView) : Type 0 where
  pub room : IsRoomFor g buffer
  pub within : IsWithinLimits g
