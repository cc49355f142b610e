-- Internal. What a history has come to, said of its entries: the clock, the journal, the front and the horizon of these alone, the copies with the lifetimes that the states before them give.
use Rattle.std.specs.Prelude.{◌≡◌, ◌⊎◌, ◌≤◌, Contains, ℕ, max, Bool, List, [], ◌∷◌, ◌++◌, length, map, fold, Option, Some, None, unwrap_or}
use Rattle.std.specs.List.{filter_map, last_or}
use Rattle.q_doc.specs.Tree.{Tree}
use Rattle.query_normal.specs.declared.key.KeyShape.{KeyShape}
use Rattle.commit_book.specs.declared.change.Change.{Change}
use Rattle.commit_book.specs.Journal.{document_at, kept_with}
use Rattle.hub_model.specs.declared.entry.Condition.{Condition}
use Rattle.hub_model.specs.declared.entry.Condition.TheVariants.{Always, Present, Absent, Unchanged}
use Rattle.hub_model.specs.declared.entry.Found.{Found}
use Rattle.hub_model.specs.declared.entry.Found.TheVariants.{Missing, At}
use Rattle.hub_model.specs.declared.entry.Entry.{Entry}
use Rattle.hub_model.specs.declared.entry.Entry.TheVariants.{Write, Read, Match, Horizon}
use Rattle.hub_model.specs.declared.entry.Tags.{Tags}
use Rattle.hub_model.specs.declared.entry.Tags.TheVariants.{Any, Listed}
use Rattle.hub_model.specs.Lifetime.{ttl_of, kept_for, is_absent}
use Rattle.hub_model.specs.Setting.{Setting}
use Rattle.hub_model.specs.State.{at_moment}
use Rattle.hub_model.specs.Step.{found_of, moment_of, state_of}

-- the greatest moment, and 0 for the empty list
abbrev pub clock_of : List Entry → ℕ
clock_of history = fold max 0 (map moment_of history)

-- what a record has behind some changes: a document of this commit, or none
abbrev pub found_behind : List Change → Change → Found
found_behind journal change = found_of (document_at journal (length journal) change.collection change.id)

-- a condition, of what is found and of the number of commits
abbrev pub IsMet : Condition → Found → ℕ → Type 0
IsMet Always found commits = Unit {0}
IsMet Present found commits = (version : ℕ) × (found ≡ At version)
IsMet Absent found commits = found ≡ Missing
IsMet (Unchanged Any) found commits = (version : ℕ) × (found ≡ At version)
IsMet (Unchanged (Listed tags)) found commits = (version t : ℕ) × (found ≡ At version) × Contains tags t × (version ≤ t) × (t ≤ commits)

-- The record of a change has a document behind some changes, and had it in the same version at a listed commit.
pub record IsEqualAtOne (journal : List Change) (change : Change) (tags : List ℕ) : Type 0 where
  pub tag : ℕ
  pub listed : Contains tags tag
  pub within : tag ≤ length journal
  pub found : ℕ × Tree
  pub now : document_at journal (length journal) change.collection change.id ≡ Some found
  pub then : document_at journal tag change.collection change.id ≡ Some found

-- A write is accepted behind some changes, of which those up to a horizon are dropped where later ones replaced them: its condition is true of what they leave, and with it what is kept takes no more than the capacity.
pub record IsAccepted (g : Setting) (journal : List Change) (horizon : ℕ) (change : Change) (condition : Condition) : Type 0 where
  pub met : IsMet condition (found_behind journal change) (length journal)
  pub fits : kept_with journal horizon change ≤ g.capacity

-- the changes that are accepted behind some and a horizon, and those together: an accepted write adds its change, and nothing else does
abbrev pub IsJournalFrom : Setting → List Change → ℕ → List Entry → List Change → Type 0
IsJournalFrom g before horizon [] journal = journal ≡ before
IsJournalFrom g before horizon (Write moment change condition ∷ es) journal =
    (IsAccepted g before horizon change condition × IsJournalFrom g (before ++ change ∷ []) horizon es journal)
    ⊎ ((IsAccepted g before horizon change condition → ⊥) × IsJournalFrom g before horizon es journal)
IsJournalFrom g before horizon (Horizon moment to ∷ es) journal = IsJournalFrom g before to es journal
IsJournalFrom g before horizon (e ∷ es) journal = IsJournalFrom g before horizon es journal

-- the changes of the accepted writes, in order
abbrev pub IsJournalOf : Setting → List Entry → List Change → Type 0
IsJournalOf g history journal = IsJournalFrom g [] 0 history journal

-- the commit that a match goes up to
abbrev pub to_of : Entry → Option ℕ
to_of (Match moment to) = Some to
to_of e = None

-- the commit that the last match goes up to, and 0 without one
abbrev pub front_of : List Entry → ℕ
front_of history = unwrap_or (last_or None (filter_map to_of history)) 0

-- the commit that a drop goes up to
abbrev pub dropped_to : Entry → Option ℕ
dropped_to (Horizon moment to) = Some to
dropped_to e = None

-- the commit that the last drop goes up to, and 0 without one
abbrev pub horizon_of : List Entry → ℕ
horizon_of history = unwrap_or (last_or None (filter_map dropped_to history)) 0

-- the history has a read of the key at that commit, with that clock after it, whose copy some cache may keep for that long, and which finds that there is no such record or not
pub record IsRead (g : Setting) (history : List Entry) (key : KeyShape) (at clock ttl : ℕ) (absent : Bool) : Type 0 where
  pub before : List Entry
  pub moment : ℕ
  pub tags : Tags
  pub rest : List Entry
  pub split : history ≡ before ++ Read moment key tags at ∷ rest
  pub clock_is : clock ≡ clock_of (before ++ Read moment key tags at ∷ [])
  pub ttl_is : ttl ≡ kept_for g (ttl_of g (at_moment (state_of g before) moment) key at)
  pub absent_is : absent ≡ is_absent (state_of g before) key at
