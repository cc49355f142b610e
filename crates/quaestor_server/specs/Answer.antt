-- Believed. How a desk answers one item.
use Rattle.std.specs.Prelude.{◌≡◌, ◌⊎◌, ℕ, Bool, true, false, List, [], ◌++◌, option_map, unwrap_or, Result}
use Rattle.flat_snapshot.specs.PageText.{page_text}
use Rattle.http_front.specs.declared.ask.Ask.{Ask}
use Rattle.http_front.specs.declared.refused.Refused.{Refused}
use Rattle.http_front.specs.declared.told.Told.{Told}
use Rattle.http_front.specs.declared.told.Told.TheVariants.{Memory, Unkept}
use Rattle.hub_core.specs.PageRoom.{PageRoomView}
use Rattle.hub_model.specs.declared.entry.Entry.{Entry}
use Rattle.hub_model.specs.Desk.{Makes, Learns}
use Rattle.hub_model.specs.Reply.{Replied}
use Rattle.hub_model.specs.Setting.{Setting}
use Rattle.hub_model.specs.Step.{state_of}
use Rattle.quaestor_server.specs.Ask.{IsEntryOf, IsToldOf, IsFresh, IsWrite, MayRunOut}

-- the bytes in a page buffer: the text of the last fetched page, and none before the first
abbrev pub fetched_bytes : PageRoomView → List ℕ
fetched_bytes room = unwrap_or (option_map page_text room.page) []

-- The desk has made the entry that is asked for, and gives the reply at its position, with these bytes of a page.
pub record Serves (g : Setting) (old new : List Entry) (mine_old mine_new : List (ℕ × Entry)) (moment : ℕ) (asked : Result Ask Refused) (told : Told) (page : List ℕ) : Type 0 where
  pub entry : Entry
  pub replied : Replied
  pub made : Makes g old new mine_old mine_new entry replied
  pub is_of : IsEntryOf asked moment (state_of g (made.before ++ made.helps)) entry
  pub fresh : IsFresh g old entry
  pub told_is : IsToldOf asked replied told page

-- Memory ran out: the desk has made no entry, and the reply says so.
pub record Fails (g : Setting) (old new : List Entry) (mine_old mine_new : List (ℕ × Entry)) (told : Told) : Type 0 where
  pub learns : Learns g old new mine_old mine_new
  pub told_is : told ≡ Memory

-- Why there may be no memory for an answer, in a history: to read what is asked, where it is not known early; for the entries of a request, whatever it asks, where the desk may be unready; for the entry of this request; or, of a store whose commits are to be kept, for the record of a write.
pub data MayFail (g : Setting) (unready : Bool) (known : List Entry) (early : Bool) (asked : Result Ask Refused) : Type 0 where
  unread : early ≡ false → MayFail g unready known early asked
  not_ready : unready ≡ true → MayFail g unready known early asked
  ran_out : MayRunOut g known asked → MayFail g unready known early asked
  unrecorded : g.keeps ≡ true → IsWrite asked → MayFail g unready known early asked

-- How a desk answers: it serves the request, or fails where there may be no memory for the answer.
pub data IsAnswer (g : Setting) (unready : Bool) (old new : List Entry) (mine_old mine_new : List (ℕ × Entry)) (moment : ℕ) (early : Bool) (asked : Result Ask Refused) (told : Told) (page : List ℕ) : Type 0 where
  serves : Serves g old new mine_old mine_new moment asked told page → IsAnswer g unready old new mine_old mine_new moment early asked told page
  fails : MayFail g unready new early asked → Fails g old new mine_old mine_new told → IsAnswer g unready old new mine_old mine_new moment early asked told page

-- what is shown of an answer: that; or, of a store whose commits are to be kept, that they cannot be
abbrev pub IsShown : Setting → (told shown : Told) → Type 0
IsShown g told shown = (shown ≡ told) ⊎ ((g.keeps ≡ true) × (shown ≡ Unkept))

-- A desk answered, and this is what is shown of its answer.
pub record Shows (g : Setting) (unready : Bool) (old new : List Entry) (mine_old mine_new : List (ℕ × Entry)) (moment : ℕ) (early : Bool) (asked : Result Ask Refused) (shown : Told) (page : List ℕ) : Type 0 where
  pub told : Told
  pub answer : IsAnswer g unready old new mine_old mine_new moment early asked told page
  pub shown_is : IsShown g told shown

-- whether an entry was made
abbrev pub has_entry : {g : Setting} {unready : Bool} {old new : List Entry} {mine_old mine_new : List (ℕ × Entry)} {moment : ℕ} {early : Bool} {asked : Result Ask Refused} {told : Told} {page : List ℕ} → IsAnswer g unready old new mine_old mine_new moment early asked told page → Bool
has_entry (serves s) = true
has_entry (fails why f) = false
