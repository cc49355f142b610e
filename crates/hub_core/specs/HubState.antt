-- Internal. What contracts see of a hub, and the history that it represents.
use Rattle.std.specs.Prelude.{◌≡◌, ℕ, ◌+◌, ◌≤◌, ◌&&◌, true, nat_le, if◌then◌else◌, List, [], ◌∷◌, Option, None, length}
use Rattle.std.specs.List.{list_any}
use Rattle.issued_expiries.specs.Copies.{Copy, SameCopies, is_active}
use Rattle.issued_expiries.specs.Expiries.{Issued}
use Rattle.ttl_estimator.specs.Estimates.{Entries, is_known, kept_of}
use Rattle.ttl_estimator.specs.Rates.{last_eight}
use Rattle.ttl_estimator.specs.Records.{Names as Writes, clocks_of}
use Rattle.query_normal.specs.declared.key.KeyShape.{KeyShape}
use Rattle.hub_model.specs.Kept.{kept_in}
use Rattle.hub_model.specs.Legal.{IsLegal, most_unmatched}
use Rattle.hub_model.specs.Lifetime.{write_clocks}
use Rattle.hub_model.specs.Setting.{Setting}
use Rattle.hub_model.specs.State.{State}
use Rattle.hub_model.specs.Step.{state_of}
use Rattle.hub_model.specs.Until.{until_of_outdated}
use Rattle.commit_book.specs.declared.change.Change.{Change}
use Rattle.commit_book.specs.Contents.{Contents}
use Rattle.commit_book.specs.Journal.{is_of, kept_rows}
use Rattle.commit_book.specs.Names.{Names, AreNamesOf}
use Rattle.hub_model.specs.declared.entry.Entry.{Entry}
use Rattle.hub_model.specs.declared.entry.Entry.TheVariants.{Match}
use Rattle.active_queries.specs.Following.{Following}
use Rattle.active_queries.specs.Queries.{HaveSeen, begun}
use Rattle.hub_core.specs.declared.lifetimes.Lifetimes.{Lifetimes}
use Rattle.hub_core.specs.Absents.{HasAbsents}
use Rattle.hub_core.specs.Copied.{copies_of}
use Rattle.hub_core.specs.CopiesView.{CopiesView, until_in}
use Rattle.hub_core.specs.ActiveQueries.{is_query, KeepsQueries}
use Rattle.hub_core.specs.Lifetimes.{KeepsLifetimes, has_entry}

-- what a hub keeps
pub record HubView : Type 0 where
  pub setting : Setting
  pub clock : ℕ
  -- the number of commits
  pub commits : ℕ
  -- all changes, those that the book dropped too
  pub rows : List Change
  -- the commit up to which the book dropped those that later ones of their record replaced
  pub horizon : ℕ
  pub front : ℕ
  -- copies of keys, each with its commit and until when it may be kept
  pub copies : List Copy
  -- the keys of outdated copies, and until when these may be kept
  pub outdated : List (KeyShape × ℕ)
  -- the change for which the book has reserved memory
  pub change : Option Change
  -- the names in the book's index
  pub names : Names
  -- the keys of which the last copy expired, and that were not given since
  pub idle : List KeyShape
  -- the keys of which a copy can be issued without memory
  pub ready : List KeyShape
  -- the keys that can be invalidated without memory
  pub invalidatable : List KeyShape
  -- the records that were written, each with the clocks of its last writes
  pub writes : Writes
  -- the keys of active queries, each with its estimate
  pub estimates : Entries
  -- the texts of the purged keys, in the order of their numbers
  pub purges : List (List ℕ)
  -- the copies of absent records, where their lifetime is bounded
  pub absents : Issued
  -- the keys of active queries, each with its match set and the commits that it lists
  pub sets : List (KeyShape × Following)

-- the hub of these parts, without the sets of its queries
abbrev pub hub_of : Contents → ℕ → CopiesView → Lifetimes → HubView
hub_of book front h l = record {
  setting = h.setting;
  clock = h.clock;
  commits = length book.journal;
  rows = book.journal;
  horizon = book.horizon;
  front = front;
  copies = h.copies;
  outdated = h.outdated;
  change = book.reserved;
  names = book.names;
  idle = h.idle;
  ready = h.ready;
  invalidatable = h.invalidatable;
  writes = l.estimator.records;
  estimates = l.estimator.keys;
  purges = l.purges.texts;
  absents = l.absents;
  sets = [];
}

-- the same with them
abbrev pub hub_with : Contents → ℕ → CopiesView → List (KeyShape × Following) → Lifetimes → HubView
hub_with book front h entries l = record (hub_of book front h l) { sets = entries }

-- The sets have only gone on: they are those of the same keys, and list the changed commits after the same ones, and none has seen less.
pub record HaveGoneOn (old new : List (KeyShape × Following)) : Type 0 where
  pub begun : begun new ≡ begun old
  pub seen : (n : ℕ) → HaveSeen n old → HaveSeen n new

-- All is as before, but that the sets have gone on.
pub record IsAsBefore (old new : HubView) : Type 0 where
  pub rest : new ≡ record old { sets = new.sets }
  pub sets : HaveGoneOn old.sets new.sets

-- Nothing is kept but what the history needs: no memory is reserved, no key is idle, the index has the names of the kept rows alone, the clocks of writes are kept of written records alone, and estimates and match sets of active queries alone. A match set has followed the journal at least up to the front, and lists no commit up to it.
pub record IsLean (h : HubView) : Type 0 where
  pub change : h.change ≡ None
  pub names : AreNamesOf (kept_rows h.rows h.horizon) h.names
  pub idle : h.idle ≡ []
  pub ready : h.ready ≡ []
  pub invalidatable : h.invalidatable ≡ []
  pub absents_idle : h.absents.idle ≡ []
  pub absents_ready : h.absents.reserved ≡ []
  pub writes : (collection id : List ℕ) → has_entry h.writes collection id ≡ list_any (is_of collection id) h.rows
  pub estimates : (key : KeyShape) → is_known h.estimates key ≡ (is_query key && is_active h.copies key)
  pub sets : KeepsQueries h.rows h.front h.copies h.idle h.sets

-- the same of the copies alone
pub record IsLeanCopies (h : CopiesView) : Type 0 where
  pub idle : h.idle ≡ []
  pub ready : h.ready ≡ []
  pub invalidatable : h.invalidatable ≡ []

-- the entries that help an accepted write at a moment: where as many commits come after the front as may, a match of all
abbrev pub help_of : State → ℕ → List Entry
help_of s moment = if nat_le (s.front + most_unmatched) (length s.journal) then Match moment (length s.journal) ∷ [] else []

-- The parts of a hub belong together: the front is a commit, which the book has not dropped, the book has the configured capacity, nothing is kept but what the history needs, and each active query key has its query and its estimate.
pub record IsSoundHub (book : Contents) (front : ℕ) (h : CopiesView) (entries : List (KeyShape × Following)) (l : Lifetimes) : Type 0 where
  pub within : front ≤ length book.journal
  pub kept : book.horizon ≤ front
  pub capacity : book.capacity ≡ h.setting.capacity
  pub lean : IsLean (hub_with book front h entries l)
  pub queries : KeepsQueries book.journal front h.copies h.idle entries
  pub lifetimes : KeepsLifetimes book.journal front h l

-- the clock and the front are the state's
pub record HasTime (now covered : ℕ) (s : State) : Type 0 where
  pub clock : now ≡ s.clock
  pub front : covered ≡ s.front

-- the changes, their number and the horizon are the state's
pub record HasBook (count : ℕ) (changes : List Change) (dropped : ℕ) (s : State) : Type 0 where
  pub commits : count ≡ length s.journal
  pub rows : changes ≡ s.journal
  pub horizon : dropped ≡ s.horizon

-- whichever key and commits are asked for, the last copy may be kept as long as the state's
abbrev pub HasCopies : List Copy → State → Type 0
HasCopies copies s = SameCopies copies (copies_of s)

-- each key is invalidated as long as its unexpired outdated copies may be kept
abbrev pub HasInvalidations : List (KeyShape × ℕ) → State → Type 0
HasInvalidations outdated s = (key : KeyShape) → until_in outdated key ≡ until_of_outdated s key

-- the clocks of the last eight writes of each record
abbrev pub HasWrites : Writes → State → Type 0
HasWrites writes s = (collection id : List ℕ) → clocks_of writes collection id ≡ last_eight (write_clocks s collection id)

-- of each query's key what is kept while it is active
abbrev pub HasEstimates : Entries → State → Type 0
HasEstimates estimates s = (key : KeyShape) → is_query key ≡ true → kept_of estimates key ≡ kept_in s key

-- The hub has come to this state.
pub record IsAt (h : HubView) (s : State) : Type 0 where
  pub time : HasTime h.clock h.front s
  pub book : HasBook h.commits h.rows h.horizon s
  pub copies : HasCopies h.copies s
  pub invalidations : HasInvalidations h.outdated s
  pub writes : HasWrites h.writes s
  pub estimates : HasEstimates h.estimates s
  pub purges : h.purges ≡ s.purges
  pub absents : HasAbsents h.setting h.absents s

-- the hub has come to the state of the history, which is legal
pub record Represents (h : HubView) (history : List Entry) : Type 0 where
  pub state : IsAt h (state_of h.setting history)
  pub legal : IsLegal h.setting history
