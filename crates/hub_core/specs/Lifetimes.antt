-- Internal. What is kept for the lifetimes of replies and for purges.
use Rattle.std.specs.Prelude.{◌≡◌, ℕ, ◌≤◌, Bool, true, false, not, ◌&&◌, ◌||◌, nat_lt, if◌then◌else◌, List, [], map, length, Option, None, Some, is_some}
use Rattle.std.specs.List.{list_any}
use Rattle.std.specs.Map.{lookup}
use Rattle.query_normal.specs.Keys.{same_key}
use Rattle.query_core.specs.Window.{window}
use Rattle.query_normal.specs.declared.key.KeyShape.{KeyShape}
use Rattle.query_normal.specs.declared.key.KeyShape.TheVariants.{Record, Query}
use Rattle.commit_book.specs.Documents.{docs}
use Rattle.issued_expiries.specs.Copies.{Copy, is_active, until_at}
use Rattle.ttl_estimator.specs.declared.estimates.Kept.{Kept}
use Rattle.ttl_estimator.specs.Estimates.{is_known, kept_of}
use Rattle.ttl_estimator.specs.Records.{Names as Writes, entry_of}
use Rattle.commit_book.specs.Journal.{is_of}
use Rattle.purge_list.specs.LastChanges.{Changes, change_of, is_known as has_change}
use Rattle.commit_book.specs.declared.change.Change.{Change}
use Rattle.hub_model.specs.Lifetime.{limits_of}
use Rattle.hub_model.specs.Outdated.{is_outdated}
use Rattle.hub_core.specs.declared.lifetimes.Lifetimes.{Lifetimes}
use Rattle.hub_core.specs.ActiveQueries.{is_query}
use Rattle.hub_core.specs.CopiesView.{CopiesView, is_idle}

-- what is kept of a key, where it is active
abbrev pub kept_while : Bool → Option Kept → Option Kept
kept_while active kept = if active then kept else None

-- What is kept of these keys is gone, and all else stays.
pub record Drops (gone : KeyShape → Bool) (old new : Lifetimes) : Type 0 where
  pub kept : (key : KeyShape) → kept_of new.estimator.keys key ≡ (if gone key then None else kept_of old.estimator.keys key)
  pub known : (key : KeyShape) → is_known new.estimator.keys key ≡ (not (gone key) && is_known old.estimator.keys key)
  pub changes : (key : KeyShape) → lookup (same_key key) new.changes ≡ (if gone key then None else lookup (same_key key) old.changes)
  pub rest : new ≡ record old { estimator = record old.estimator { keys = new.estimator.keys }; changes = new.changes }

-- the key is idle, or becomes so by a step of the copies
abbrev pub went_idle : CopiesView → CopiesView → KeyShape → Bool
went_idle old new key = is_idle old key || is_active old.copies key && not (is_active new.copies key)

-- a record has an entry for the clocks of its writes
abbrev pub has_entry : Writes → List ℕ → List ℕ → Bool
has_entry writes collection id = is_some (entry_of writes collection id)

-- the change, if there is one, is of the record
abbrev pub is_of_some : List ℕ → List ℕ → Option Change → Bool
is_of_some collection id None = false
is_of_some collection id (Some change) = is_of collection id change

-- the record of a change, if there is one, has an entry too, and no other that had none
abbrev pub MakesEntry : Option Change → Writes → Writes → Type 0
MakesEntry change old new = (collection id : List ℕ) → has_entry new collection id ≡ (is_of_some collection id change || has_entry old collection id)

-- a copy of the key at a commit is unexpired
abbrev pub has_copy : List Copy → KeyShape → ℕ → Bool
has_copy copies key commit = is_some (until_at copies key commit)

-- The unexpired copies below the last change of their key are outdated at the front, and no others are.
pub record HaveLastChanges (journal : List Change) (front : ℕ) (copies : List Copy) (changes : Changes) : Type 0 where
  pub within : (key : KeyShape) → change_of changes key ≤ front
  pub exact : (key : KeyShape) (commit : ℕ) → has_copy copies key commit ≡ true → nat_lt commit (change_of changes key) ≡ is_outdated key commit journal front

-- a query's key has an entry for its estimate: it is active, or idle and not dropped yet, or a copy of it can be issued without memory
abbrev pub has_estimate : CopiesView → KeyShape → Bool
has_estimate h key = is_query key && ((is_active h.copies key || is_idle h key) || list_any (same_key key) h.ready)

-- The limits are those configured, each active query has its estimate, and the last changes are those of active keys.
pub record KeepsLifetimes (journal : List Change) (front : ℕ) (h : CopiesView) (l : Lifetimes) : Type 0 where
  pub limits : l.estimator.limits ≡ limits_of h.setting
  pub estimates : (key : KeyShape) → is_known l.estimator.keys key ≡ has_estimate h key
  pub kept : (key : KeyShape) → is_query key ≡ true → is_active h.copies key ≡ true → is_some (kept_of l.estimator.keys key) ≡ true
  pub changes : HaveLastChanges journal front h.copies l.changes
  pub active : (key : KeyShape) → has_change l.changes key ≡ true → (is_active h.copies key || is_idle h key) ≡ true

-- what a hub shows of them is the same
pub record ViewedAlike (old new : Lifetimes) : Type 0 where
  pub estimator : new.estimator ≡ old.estimator
  pub texts : new.purges.texts ≡ old.purges.texts
  pub absents : new.absents ≡ old.absents

-- the ids of the records that the query of a key finds at the last commit; of a record's key none has to be told
abbrev pub ids_at : KeyShape → List Change → List (List ℕ)
ids_at (Record collection id) journal = []
ids_at (Query kind normal) journal = map (λ row. row.0) (window normal (docs journal (length journal) normal.collection))
