-- Internal. The keys that the commits of a match invalidate.
use Rattle.std.specs.Prelude.{◌≡◌, ℕ, ◌<◌, ◌==◌, Bool, false, not, ◌&&◌, List, map, filter, All, IsTrue, Option, Some, None, nat_le, nat_lt, option_map, unwrap_or}
use Rattle.std.specs.List.{list_any}
use Rattle.query_normal.specs.Keys.{same_key}
use Rattle.query_normal.specs.declared.key.KeyShape.{KeyShape}
use Rattle.query_normal.specs.declared.key.KeyShape.TheVariants.{Record}
use Rattle.issued_expiries.specs.Copies.{Copy, is_active, latest_of}
use Rattle.purge_list.specs.LastChanges.{Changes, change_of, is_known}
use Rattle.hub_model.specs.Outdated.{is_changed}
use Rattle.hub_model.specs.Until.{greatest}
use Rattle.commit_book.specs.declared.change.Change.{Change}
use Rattle.commit_book.specs.Journal.{alteration}
use Rattle.active_queries.specs.Following.{Following}
use Rattle.hub_core.specs.declared.invalidations.Invalidation.{Invalidation}
use Rattle.hub_core.specs.ActiveQueries.{is_query}
use Rattle.hub_core.specs.CopiesView.{until_below}

-- it is the invalidation of this key by this commit
abbrev pub is_invalidation : KeyShape → ℕ → Invalidation → Bool
is_invalidation key commit m = same_key key m.key && (m.commit == commit)

-- a commit after one, up to another
abbrev pub is_after : ℕ → ℕ → ℕ → Bool
is_after front to commit = nat_lt front commit && nat_le commit to

-- A commit below which a key has an unexpired copy invalidates the key exactly where it comes after one commit, up to another, and changes the result of the key.
abbrev pub AreInvalidationsOf : List Change → ℕ → ℕ → List Copy → List Invalidation → Type 0
AreInvalidationsOf journal front to copies invalidations = (key : KeyShape) (commit : ℕ) → 0 < until_below copies key commit → list_any (is_invalidation key commit) invalidations ≡ (is_after front to commit && is_changed key journal commit)

-- the same of the keys of records, with copies or without, and of no other key
abbrev pub AreRecordInvalidationsOf : List Change → ℕ → ℕ → List Invalidation → Type 0
AreRecordInvalidationsOf journal front to invalidations = (key : KeyShape) (commit : ℕ) → list_any (is_invalidation key commit) invalidations ≡ (not (is_query key) && (is_after front to commit && is_changed key journal commit))

-- the query is of this key, and lists the commit among those that come after one, up to another
abbrev pub invalidates : ℕ → ℕ → KeyShape → ℕ → KeyShape × Following → Bool
invalidates front to key commit e = same_key key e.0 && list_any (λ m. is_after front to m && (m == commit)) e.1.changed

-- the same of the query, if there is one
abbrev pub lists_after : ℕ → ℕ → ℕ → Option Following → Bool
lists_after front to commit None = false
lists_after front to commit (Some a) = list_any (λ m. is_after front to m && (m == commit)) a.changed

-- the key of the record that a change is of
abbrev pub key_of : Change → KeyShape
key_of change = Record change.collection change.id

-- the key whose result a commit changed, if it changed one
abbrev pub altered_key : List Change → ℕ → Option KeyShape
altered_key journal commit = option_map key_of (alteration journal commit)

-- the key is that one
abbrev pub is_key : KeyShape → Option KeyShape → Bool
is_key key None = false
is_key key (Some own) = same_key key own

-- it is of an active key only where that key has an entry for its last change
abbrev pub HasEntry : List Copy → Changes → Invalidation → Type 0
HasEntry copies changes m = IsTrue (is_active copies m.key) → IsTrue (is_known changes m.key)

-- each of them
abbrev pub HaveEntries : List Copy → Changes → List Invalidation → Type 0
HaveEntries copies changes invalidations = All (HasEntry copies changes) invalidations

-- it is of the key, and outdates a copy that is unexpired at a second: a copy from the last change of the key on
abbrev pub purges_at : List Copy → Changes → ℕ → KeyShape → Invalidation → Bool
purges_at copies changes second key m = same_key key m.key && nat_lt second (unwrap_or (latest_of copies m.key (change_of changes m.key) m.commit) 0)

-- the greatest commit that invalidates the key, or 0 without one
abbrev pub raised_by : KeyShape → List Invalidation → ℕ
raised_by key invalidations = greatest (map (λ m. m.commit) (filter (λ m. same_key key m.key) invalidations))

-- until when the last copy of a key that these invalidations outdate may be kept, or 0 without one
abbrev pub invalidated_until : List Copy → List Invalidation → KeyShape → ℕ
invalidated_until copies invalidations key = greatest (map (λ m. until_below copies m.key m.commit) (filter (λ m. same_key key m.key) invalidations))
