-- Internal. What is noted of each key that was read, and the whitelisted keys.
use Rattle.std.specs.Prelude.{◌≡◌, ◌&&◌, if◌then◌else◌, max, ℕ, Bool, true, List, Option, Some, None, IfSome}
use Rattle.std.specs.List.{list_any}
use Rattle.std.specs.Map.{lookup}
use Rattle.query_normal.specs.declared.key.KeyShape.{KeyShape}
use Rattle.query_normal.specs.Keys.{key_text, same_key}
use Rattle.flat_snapshot.specs.Sight.{mark_of}
use Rattle.client_session.specs.declared.noted.KeyFloor.{KeyFloor}

-- the commit of what was noted, and 0 where nothing was
abbrev pub commit_in : Option KeyFloor → ℕ
commit_in None = 0
commit_in (Some n) = n.commit

-- the commit that was noted for a key, and 0 where none was
abbrev pub noted : List (KeyShape × KeyFloor) → KeyShape → ℕ
noted entries key = commit_in (lookup (same_key key) entries)

-- what is noted of a key: its commit, and its mark
abbrev pub floor_at : List (KeyShape × KeyFloor) → KeyShape → KeyFloor
floor_at entries key = record { commit = noted entries key; mark = mark_of (key_text key) }

-- each key is noted with its mark
abbrev pub AreMarked : List (KeyShape × KeyFloor) → Type 0
AreMarked entries = (key : KeyShape) → IfSome (lookup (same_key key) entries) (λ n. n.mark ≡ mark_of (key_text key))

-- a commit was noted for a key, unless a greater one was
abbrev pub IsNoted : List (KeyShape × KeyFloor) → List (KeyShape × KeyFloor) → KeyShape → ℕ → Type 0
IsNoted old new key commit = (other : KeyShape) → noted new other ≡ (if same_key key other then max (noted old key) commit else noted old other)

-- a key was whitelisted, where it is flagged
abbrev pub IsListed : List KeyShape → List KeyShape → KeyShape → Bool → Type 0
IsListed old new key is_flagged = (other : KeyShape) → list_any (same_key other) new ≡ (if is_flagged && same_key key other then true else list_any (same_key other) old)
