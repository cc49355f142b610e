-- Internal. How an active query follows the journal.
use Rattle.std.specs.Prelude.{◌≡◌, ◌<◌, ◌≤◌, ◌==◌, ℕ, suc, ◌-◌, max, nat_lt, List, Some, All, length, filter, slice_get}
use Rattle.std.specs.List.{list_any}
use Rattle.commit_book.specs.declared.change.Change.{Change}
use Rattle.commit_book.specs.declared.change.CommitRow.{CommitRow}
use Rattle.commit_book.specs.CommitRows.{commit_row}
use Rattle.query_core.specs.declared.query.Kind.{Kind}
use Rattle.query_core.specs.declared.query.Query.{Query}
use Rattle.query_normal.specs.declared.key.KeyShape.{KeyShape}
use Rattle.query_normal.specs.declared.key.KeyShape.TheVariants.{Query as QueryKey}
use Rattle.match_sets.specs.Contents.{Contents, StandsFor}
use Rattle.match_sets.specs.Follow.{ArePassing}
use Rattle.hub_model.specs.Outdated.{is_changed}

-- The kind of the result, the match set, the last commit that was seen, and the commits above `from` that changed the result.
pub record Following : Type 0 where
  pub kind : Kind
  pub set : Contents
  pub seen : ℕ
  pub from : ℕ
  pub changed : List ℕ

-- The set stands for the journal at a commit, and each one since, up to the last that was seen, passes by. Of the commits
-- above `from` exactly those are listed that changed the result.
pub record Follows (kind : Kind) (query : Query) (a : Following) (journal : List Change) : Type 0 where
  pub kind_is : a.kind ≡ kind
  pub query_is : a.set.query ≡ query
  pub stands : StandsFor a.set journal
  pub forward : a.set.at ≤ a.seen
  pub within : a.seen ≤ length journal
  pub begun : a.from ≤ a.seen
  pub passed : ArePassing a.set.query journal a.set.at a.seen
  pub listed : All (λ n. n ≤ a.seen) a.changed
  pub exact : (n : ℕ) → a.from < n → n ≤ a.seen → list_any (λ m. m == n) a.changed ≡ is_changed (QueryKey kind query) journal n

-- the key is that of a query, which is followed
abbrev pub FollowsKey : List Change → KeyShape × Following → Type 0
FollowsKey journal e = (kind : Kind) × (query : Query) × (e.0 ≡ QueryKey kind query) × Follows kind query e.1 journal

-- each query is followed
abbrev pub AreFollowing : List Change → List (KeyShape × Following) → Type 0
AreFollowing journal entries = All (FollowsKey journal) entries

-- the changed commits are above a commit
abbrev pub AreAbove : ℕ → List ℕ → Type 0
AreAbove n changed = All (λ m. n < m) changed

-- without the changed commits up to one
abbrev pub forgotten : ℕ → Following → Following
forgotten to a = record { kind = a.kind; set = a.set; seen = a.seen; from = max a.from to; changed = filter (λ n. nat_lt to n) a.changed }

-- with the last commit that all have seen, and the one above which all list changed commits, where these are above its own
abbrev pub lifted : ℕ → ℕ → Following → Following
lifted seen from a = record { kind = a.kind; set = a.set; seen = max a.seen seen; from = max a.from from; changed = a.changed }

-- having seen the commits up to one
abbrev pub raised : ℕ → Following → Following
raised seen a = record { kind = a.kind; set = a.set; seen = max a.seen seen; from = a.from; changed = a.changed }

-- It follows as before, has seen no less, and lists changed commits above the same commit: all those that come new are above what it had seen.
pub record HasFollowed (journal : List Change) (old new : Following) : Type 0 where
  pub follows : (kind : Kind) (query : Query) → Follows kind query old journal → Follows kind query new journal
  pub from : new.from ≡ old.from
  pub seen : old.seen ≤ new.seen
  pub above : (n : ℕ) → n ≤ old.seen → AreAbove n old.changed → AreAbove n new.changed

-- the row is that of the commit after the first n
abbrev pub IsRowAfter : List Change → ℕ → CommitRow → Type 0
IsRowAfter journal n row = (change : Change) × (slice_get journal n ≡ Some change) × (row ≡ commit_row journal (suc n) change)

-- the row is that of its commit
abbrev pub IsRowOf : List Change → CommitRow → Type 0
IsRowOf journal row = IsRowAfter journal (row.commit - 1) row
