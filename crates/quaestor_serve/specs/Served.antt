-- Believed. That a connection was well served, at moments of a clock of its own.
use Rattle.std.specs.Prelude.{◌≡◌, ◌⊎◌, ℕ, Bool, false, List, [], Option, Some}
use Rattle.dialogue.specs.Dialogue.{Sides}
use Rattle.hub_model.specs.declared.entry.Entry.{Entry}
use Rattle.hub_model.specs.Setting.{Setting}
use Rattle.q_outside.specs.Ends.{End, Ticks}
use Rattle.q_outside.specs.declared.served.Served.{Served}
use Rattle.quaestor_server.specs.Conversation.{AllWithin}
use Rattle.quaestor_server.specs.WellServed.{WellServed}

-- what the source and the sink of a connection show
abbrev pub sides_of : {S K : Type 0} → (S → End) → (K → End) → S → K → Sides
sides_of source_at sink_at source sink = record { source = source_at source; sink = sink_at sink }

-- so many commits are kept where this hand keeps what it is given, or there are none
abbrev pub KeptBy : {H L : Type 0} → (log : H → L) → (keeps : H → ℕ → Type 0) → H → ℕ → Type 0
KeptBy {H} log keeps first commits = (commits ≡ 0) ⊎ ((hand : H) × (log hand ≡ log first) × keeps hand commits)

-- a hand keeps what it is given there
abbrev pub IsAtLog : {H L : Type 0} → (log : H → L) → Option L → H → Type 0
IsAtLog log place hand = place ≡ Some (log hand)

-- a hand keeps what it is given in a log that this keeper opened on what was kept before
abbrev pub IsOfKeeper : {Q H L : Type 0} → (opens : Q → L → Type 0) → (log : H → L) → Q → H → Type 0
IsOfKeeper opens log keeper hand = opens keeper (log hand)

-- The connection was well served in the history, with these entries of its own, at moments that the clock gave. It knew the first list of entries when it began and the second when it ended. No reply shows a commit but of so many as were kept then.
pub record IsServed {C : Type 0} (tick : C → ℕ → C → Type 0) (kept : ℕ → Type 0) (g : Setting) (history : List Entry) (clock : C) (began ended : List Entry) (before after : Sides) (own : List (ℕ × Entry)) (served : Served) : Type 0 where
  pub moments : List ℕ
  pub entered : List Bool
  -- the clock as it is at the end
  pub late : C
  pub ticks : Ticks tick clock moments late
  -- its desk stored no entries, so it was never unready
  pub well : WellServed g false history moments entered before after own served
  pub begins : well.begins ≡ began
  pub ends : well.ends ≡ ended
  pub commits : ℕ
  pub within : AllWithin g false commits 0 (record { seen = well.begins; mine = []; moments = []; entered = [] }) well.dialogue.passed.exchanges (record { seen = well.ends; mine = own; moments = moments; entered = entered }) well.dialogue.answered
  pub stands : kept commits
