-- Internal. What contracts see of the active queries.
use Rattle.std.specs.Prelude.{◌≡◌, ◌≤◌, ℕ, Bool, true, false, ◌&&◌, ◌||◌, List, [], ◌∷◌, Option, None, Some, All, map, is_some}
use Rattle.std.specs.List.{list_any}
use Rattle.std.specs.Map.{lookup}
use Rattle.commit_book.specs.declared.change.Change.{Change}
use Rattle.query_normal.specs.declared.key.KeyShape.{KeyShape}
use Rattle.query_normal.specs.Keys.{same_key}
use Rattle.match_index.specs.Candidates.{is_query}
use Rattle.active_queries.specs.Following.{Following, FollowsKey, AreAbove, forgotten, lifted, raised}

-- the queries with their keys, each once, and for how many more there is space
pub record Followers : Type 0 where
  pub entries : List (KeyShape × Following)
  pub spare : ℕ

-- the same, with the key that may be added
pub record Queries : Type 0 where
  pub entries : List (KeyShape × Following)
  pub ready : Option KeyShape
  pub spare : ℕ

-- the keys, each with the commit above which its changed commits are listed
abbrev pub begun : List (KeyShape × Following) → List (KeyShape × ℕ)
begun entries = map (λ e. (e.0, e.1.from)) entries

-- each has seen the commit
abbrev pub HaveSeen : ℕ → List (KeyShape × Following) → Type 0
HaveSeen n entries = All (λ e. n ≤ e.1.seen) entries

-- each lists changed commits above a commit alone
abbrev pub ListAbove : ℕ → List (KeyShape × Following) → Type 0
ListAbove n entries = All (λ e. AreAbove n e.1.changed) entries

-- each without the changed commits up to one
abbrev pub all_forgotten : ℕ → List (KeyShape × Following) → List (KeyShape × Following)
all_forgotten to entries = map (λ e. (e.0, forgotten to e.1)) entries

-- each with what all have in common
abbrev pub all_lifted : ℕ → ℕ → List (KeyShape × Following) → List (KeyShape × Following)
all_lifted seen from entries = map (λ e. (e.0, lifted seen from e.1)) entries

-- each having seen the commits up to one
abbrev pub all_raised : ℕ → List (KeyShape × Following) → List (KeyShape × Following)
all_raised seen entries = map (λ e. (e.0, raised seen e.1)) entries

-- ---- from one state to a later one

-- The query of a key follows as before, has seen no less, and lists changed commits above the same commit: all those that come new are above what it had seen.
pub record GoesOn (journal : List Change) (old new : KeyShape × Following) : Type 0 where
  pub key : new.0 ≡ old.0
  pub follows : FollowsKey journal old → FollowsKey journal new
  pub from : new.1.from ≡ old.1.from
  pub seen : old.1.seen ≤ new.1.seen
  pub above : (n : ℕ) → n ≤ old.1.seen → AreAbove n old.1.changed → AreAbove n new.1.changed

-- each goes on, and they are in the same order
abbrev pub AllGoOn : List Change → List (KeyShape × Following) → List (KeyShape × Following) → Type 0
AllGoOn journal [] [] = Unit {0}
AllGoOn journal [] (f ∷ fs) = ⊥
AllGoOn journal (e ∷ es) [] = ⊥
AllGoOn journal (e ∷ es) (f ∷ fs) = GoesOn journal e f × AllGoOn journal es fs

-- ---- keys

-- whether a commit is listed
abbrev pub has_any : List ℕ → Bool
has_any [] = false
has_any (n ∷ ns) = true

-- whether there is a query, and it lists changed commits
abbrev pub has_changed : Option Following → Bool
has_changed None = false
has_changed (Some a) = has_any a.changed

-- the keys are those of the queries that list changed commits
abbrev pub AreListed : List (KeyShape × Following) → List KeyShape → Type 0
AreListed entries listed = (key : KeyShape) → list_any (same_key key) listed ≡ has_changed (lookup (same_key key) entries)

-- whether a key is the one that may be added
abbrev pub is_ready : Option KeyShape → KeyShape → Bool
is_ready None key = false
is_ready (Some other) key = same_key key other

-- the index has the keys of queries that are there or may be added
abbrev pub AreIndexed : List (KeyShape × Following) → Option KeyShape → List KeyShape → Type 0
AreIndexed entries ready index = (key : KeyShape) → list_any (same_key key) index ≡ (is_query key && (is_some (lookup (same_key key) entries) || is_ready ready key))
