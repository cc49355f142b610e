-- Believed. What one connection to a store does, from its first byte to its end. In each record `unready` is whether its desk may be unready.
use Rattle.std.specs.Prelude.{◌≡◌, ◌⊎◌, ℕ, ◌+◌, ◌≤◌, ◌++◌, Bool, List, [], ◌∷◌, length}
use Rattle.dialogue.specs.Dialogue.{Sides, Exchange, Answered, Dialogue}
use Rattle.http_front.specs.ReplyText.{IsReplyText}
use Rattle.http_front.specs.declared.told.Told.{Told}
use Rattle.http_front.specs.declared.told.Told.TheVariants.{Unkept}
use Rattle.http_message.specs.Item.{Item}
use Rattle.hub_model.specs.declared.entry.Entry.{Entry}
use Rattle.hub_model.specs.Setting.{Setting}
use Rattle.hub_model.specs.Step.{state_of}
use Rattle.q_outside.specs.declared.served.Served.{Served}
use Rattle.quaestor_server.specs.Answer.{Shows, has_entry}
use Rattle.quaestor_server.specs.Ask.{asked_by, is_known_early, shape_by}

-- An item was answered at a moment: its entry was made or memory ran out, and this is the text of the reply. Where commits are to be kept it may say that they cannot be.
pub record RepliesAt (g : Setting) (unready : Bool) (old new : List Entry) (mine_old mine_new : List (ℕ × Entry)) (moment : ℕ) (item : Item) (close : Bool) (text : List ℕ) : Type 0 where
  pub shown : Told
  -- the bytes of the page, if the reply is one
  pub page : List ℕ
  pub shows : Shows g unready old new mine_old mine_new moment (is_known_early g.hosts item) (asked_by g.hosts item) shown page
  pub text_is : IsReplyText (shape_by g.origins item) shown page close text

-- The state of a connection between two items.
pub record ConnectionState : Type 0 where
  -- the history that the desk knows, and its own entries with their positions
  pub seen : List Entry
  pub mine : List (ℕ × Entry)
  -- the moments that the clock gave for the items so far, in turn
  pub moments : List ℕ
  -- which of them have an entry; the others were answered 503
  pub entered : List Bool

-- From the first state of the connection the item was answered by this text, which led to the second.
pub record Replies (g : Setting) (unready : Bool) (a : ConnectionState) (item : Item) (close : Bool) (text : List ℕ) (b : ConnectionState) : Type 0 where
  pub moment : ℕ
  pub at : RepliesAt g unready a.seen b.seen a.mine b.mine moment item close text
  pub moments_are : b.moments ≡ a.moments ++ moment ∷ []
  pub entered_are : b.entered ≡ a.entered ++ has_entry at.shows.answer ∷ []

-- a reply shows no more than so many commits, by the history that was known when it was given: it says that commits cannot be kept, or the history has no more
abbrev pub ShowsWithin : Setting → ℕ → List Entry → Told → Type 0
ShowsWithin g commits history told = (told ≡ Unkept) ⊎ (length (state_of g history).journal ≤ commits)

-- so does each of these replies
abbrev pub AllWithin : (g : Setting) (unready : Bool) (commits count : ℕ) (first : ConnectionState) (xs : List Exchange) (last : ConnectionState) → Answered (Replies g unready) count first xs last → Type 0
AllWithin g unready commits count first [] last t = Unit {0}
AllWithin g unready commits count first (x ∷ xs) last t = ShowsWithin g commits t.0.seen t.1.at.shown × AllWithin g unready commits (count + 1) t.0 xs last t.2

-- So many commits were kept: a desk of this configuration, tied to this, knew a history with so many, and all of them were kept.
pub record WereKept {D A : Type 0} (setting : D → Setting) (seen : D → List Entry) (anchor : D → A) (is_kept : D → Type 0) (g : Setting) (tied : A) (commits : ℕ) : Type 0 where
  pub desk : D
  pub setting_is : setting desk ≡ g
  pub anchor_is : anchor desk ≡ tied
  pub commits_are : length (state_of g (seen desk)).journal ≡ commits
  pub kept : is_kept desk

-- so many commits were kept, or there are none
abbrev pub AreKept : {D A : Type 0} (setting : D → Setting) (seen : D → List Entry) (anchor : D → A) (is_kept : D → Type 0) (g : Setting) (tied : A) (commits : ℕ) → Type 0
AreKept setting seen anchor is_kept g tied commits = (commits ≡ 0) ⊎ WereKept setting seen anchor is_kept g tied commits

-- What one call does to a desk and a clock. Unless its reply says that commits cannot be kept, all that the desk knew were kept when it was given.
pub record AnswersAt {D C A : Type 0} (setting : D → Setting) (unready : Bool) (seen : D → List Entry) (mine : D → List (ℕ × Entry)) (anchor : D → A) (is_kept : D → Type 0) (tick : C → ℕ → C → Type 0) (a b : D) (c d : C) (item : Item) (close : Bool) (text : List ℕ) : Type 0 where
  pub same : setting b ≡ setting a
  pub tied : anchor b ≡ anchor a
  pub moment : ℕ
  pub ticks : tick c moment d
  pub at : RepliesAt (setting a) unready (seen a) (seen b) (mine a) (mine b) moment item close text
  pub stands : (at.shown ≡ Unkept) ⊎ is_kept b

-- A connection was served: what passed through it, at which moments, and the entry of each item. No reply shows a commit but of so many as were kept then.
pub record Conversation (g : Setting) (unready : Bool) (timed : List ℕ → Type 0) (kept : ℕ → Type 0) (seen seen' : List Entry) (mine mine' : List (ℕ × Entry)) (before after : Sides) (served : Served) : Type 0 where
  pub moments : List ℕ
  pub entered : List Bool
  pub ticks : timed moments
  pub dialogue : Dialogue (Replies g unready) (record { seen = seen; mine = mine; moments = []; entered = [] }) (record { seen = seen'; mine = mine'; moments = moments; entered = entered }) before after served
  pub commits : ℕ
  pub within : AllWithin g unready commits 0 (record { seen = seen; mine = mine; moments = []; entered = [] }) dialogue.passed.exchanges (record { seen = seen'; mine = mine'; moments = moments; entered = entered }) dialogue.answered
  pub stands : kept commits
