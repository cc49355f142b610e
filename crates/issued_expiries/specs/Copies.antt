-- Internal. Issued copies of keys, and the questions about them.
use Rattle.std.specs.Prelude.{◌≡◌, ℕ, ◌==◌, Bool, ◌&&◌, max, nat_le, nat_lt, if◌then◌else◌, List, [], ◌∷◌, Option, Some, None, map, filter}
use Rattle.std.specs.List.{list_any}
use Rattle.std.specs.Set.{distinct_count}
use Rattle.query_normal.specs.declared.key.KeyShape.{KeyShape}
use Rattle.query_normal.specs.Keys.{same_key}

-- an issued copy: its key, the commit at which it was read, and the second at which it expires
abbrev pub Copy : Type 0
Copy = KeyShape × ℕ × ℕ

-- the copies that expire later than the clock
abbrev pub unexpired : ℕ → List Copy → List Copy
unexpired clock copies = filter (λ copy. nat_lt clock copy.2) copies

-- the later of a second and another, if there is another
abbrev pub later_of : ℕ → Option ℕ → ℕ
later_of until None = until
later_of until (Some other) = max until other

-- the greatest until of the copies of a key whose commits pass a test; none without one
abbrev pub latest_where : KeyShape → (ℕ → Bool) → List Copy → Option ℕ
latest_where key test [] = None
latest_where key test (copy ∷ copies) = if same_key key copy.0 && test copy.1 then Some (later_of copy.2 (latest_where key test copies)) else latest_where key test copies

-- a commit is at or above one and below another
abbrev pub is_between : ℕ → ℕ → ℕ → Bool
is_between from below commit = nat_le from commit && nat_lt commit below

-- the greatest until of the copies of a key at or above a commit and below another; none without one
abbrev pub latest_of : List Copy → KeyShape → ℕ → ℕ → Option ℕ
latest_of copies key from below = latest_where key (is_between from below) copies

-- the greatest until of the copies of a key at a commit; none without one
abbrev pub until_at : List Copy → KeyShape → ℕ → Option ℕ
until_at copies key commit = latest_where key (λ other. other == commit) copies

-- whether there is a copy of a key
abbrev pub is_active : List Copy → KeyShape → Bool
is_active copies key = list_any (λ copy. same_key key copy.0) copies

-- the number of keys that have a copy
abbrev pub active_keys : List Copy → ℕ
active_keys copies = distinct_count same_key (map (λ copy. copy.0) copies)

-- for every key and every test of commits the greatest until is the same
abbrev pub SameCopies : List Copy → List Copy → Type 0
SameCopies some others = (key : KeyShape) (test : ℕ → Bool) → latest_where key test some ≡ latest_where key test others

-- the copies with one more, unless it is expired
abbrev pub with_copy : ℕ → Copy → List Copy → List Copy
with_copy clock copy copies = if nat_lt clock copy.2 then copy ∷ copies else copies
