-- Internal. The active queries of a hub: a query key has a match set exactly while a copy of its result may be kept.
use Rattle.std.specs.Prelude.{◌≡◌, ◌⊎◌, ℕ, ◌<◌, ◌≤◌, Bool, true, false, ◌&&◌, ◌||◌, nat_lt, if◌then◌else◌, List, [], ◌∷◌, ◌++◌, length, All, Option, Some, None, is_some}
use Rattle.std.specs.List.{list_any}
use Rattle.std.specs.Map.{lookup}
use Rattle.query_normal.specs.Keys.{same_key}
use Rattle.query_normal.specs.declared.key.KeyShape.{KeyShape}
use Rattle.query_normal.specs.declared.key.KeyShape.TheVariants.{Record, Query}
use Rattle.issued_expiries.specs.Copies.{Copy, is_active}
use Rattle.commit_book.specs.declared.change.Change.{Change}
use Rattle.active_queries.specs.Following.{Following, FollowsKey, AreFollowing}
use Rattle.active_queries.specs.Queries.{Queries, ListAbove}
use Rattle.hub_core.specs.CopiesView.{CopiesView, until_below}

-- the key is that of a query
abbrev pub is_query : KeyShape → Bool
is_query (Record collection id) = false
is_query (Query kind normal) = true

-- no change of an unexpired copy's result is missed: the changes are listed from a commit on that is matched, or below which the key has no copy
abbrev pub IsCovered : ℕ → List Copy → KeyShape × Following → Type 0
IsCovered front copies e = (e.1.from ≤ front) ⊎ (until_below copies e.0 e.1.from ≡ 0)

-- the key has a query: it is that of a query, and active, or among those whose last copy expired and whose query is not dropped yet
abbrev pub has_query : List Copy → List KeyShape → KeyShape → Bool
has_query copies idle key = is_query key && (is_active copies key || list_any (same_key key) idle)

-- Each active query key has its match set, which has followed the journal at least up to the front, and lists what a match needs: no commit up to the front.
pub record KeepsQueries (journal : List Change) (front : ℕ) (copies : List Copy) (idle : List KeyShape) (entries : List (KeyShape × Following)) : Type 0 where
  pub following : AreFollowing journal entries
  pub recent : All (λ e. front ≤ e.1.seen) entries
  pub covered : All (IsCovered front copies) entries
  pub listed : ListAbove front entries
  pub tied : (key : KeyShape) → is_some (lookup (same_key key) entries) ≡ has_query copies idle key

-- the queries stay kept through a step of the copies, of whichever journal and front
abbrev pub StayKept : CopiesView → List (KeyShape × Following) → CopiesView → List (KeyShape × Following) → Type 0
StayKept old before new after = (journal : List Change) (front : ℕ) → KeepsQueries journal front old.copies old.idle before → KeepsQueries journal front new.copies new.idle after

-- The query of a key, which had none, started at the last commit, and all is ready for it beside the others.
pub record IsStarted (journal : List Change) (key : KeyShape) (new : KeyShape × Following) (queries : Queries) : Type 0 where
  pub key_is : new.0 ≡ key
  pub query : is_query key ≡ true
  pub follows : FollowsKey journal (key, new.1)
  pub from : new.1.from ≡ length journal
  pub seen : new.1.seen ≡ length journal
  pub changed : new.1.changed ≡ []
  pub absent : lookup (same_key key) queries.entries ≡ None
  pub space : 0 < queries.spare
  pub ready : queries.ready ≡ Some key

-- the query of a key may be added
pub record CanBeAdded (new : KeyShape × Following) (queries : Queries) : Type 0 where
  pub space : 0 < queries.spare
  pub ready : queries.ready ≡ Some new.0
  pub absent : lookup (same_key new.0) queries.entries ≡ None
  pub changed : new.1.changed ≡ []

-- the key is no query's, or it has a query, which has seen the last commit
abbrev pub HasSeenAll : List Change → KeyShape → Queries → Type 0
HasSeenAll journal key queries = (is_query key ≡ false) ⊎ ((a : Following) × ((lookup (same_key key) queries.entries ≡ Some a) × (length journal ≤ a.seen)))

-- what a read of a key needs of its query is at hand: the query was started, or none had to be
abbrev pub IsAtHand : List Change → KeyShape → Option (KeyShape × Following) → Queries → Type 0
IsAtHand journal key None queries = HasSeenAll journal key queries
IsAtHand journal key (Some new) queries = IsStarted journal key new queries

-- the query that was started, or else the one that the key has
abbrev pub query_at_hand : KeyShape → Option (KeyShape × Following) → Queries → Option Following
query_at_hand key None queries = lookup (same_key key) queries.entries
query_at_hand key (Some new) queries = Some new.1

-- the queries with the one that was started, where a copy of its result may be kept
abbrev pub with_started : Option (KeyShape × Following) → ℕ → List (KeyShape × Following) → List (KeyShape × Following)
with_started None ttl entries = entries
with_started (Some new) ttl entries = if nat_lt 0 ttl then entries ++ new ∷ [] else entries
