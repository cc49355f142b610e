-- Believed. The copies that reads issued.
use Rattle.std.specs.Prelude.{◌≡◌, ◌<◌, Contains, ℕ, Bool, ◌&&◌, nat_lt, List, filter, map}
use Rattle.std.specs.List.{list_any}
use Rattle.std.specs.Set.{unique_keys}
use Rattle.query_normal.specs.Keys.{same_key}
use Rattle.query_normal.specs.declared.key.KeyShape.{KeyShape}
use Rattle.hub_model.specs.State.{IssuedCopy, State, until_of}

-- the copies that may be kept at all
abbrev pub issues : State → List IssuedCopy
issues s = filter (λ r. nat_lt 0 r.ttl) s.copies

-- the copy may be kept longer than this moment
abbrev pub is_live : ℕ → IssuedCopy → Bool
is_live moment r = nat_lt moment (until_of r)

-- the copies that are unexpired
abbrev pub live : State → List IssuedCopy
live s = filter (is_live s.clock) (issues s)

-- the key has a copy among these that passes the test
abbrev pub some_copy : KeyShape → (IssuedCopy → Bool) → List IssuedCopy → Bool
some_copy key test copies = list_any (λ r. same_key key r.key && test r) copies

-- the keys of the copies, each once
abbrev pub keys_of : List IssuedCopy → List KeyShape
keys_of copies = unique_keys same_key (map (λ r. r.key) copies)

-- a read of the key issued a copy whose lifetime is not over
pub record IsActive (s : State) (key : KeyShape) : Type 0 where
  pub copy : IssuedCopy
  pub among : Contains s.copies copy
  pub key_is : copy.key ≡ key
  pub issued : 0 < copy.ttl
  pub unexpired : s.clock < until_of copy

-- the keys that have an unexpired copy
abbrev pub active_keys : State → List KeyShape
active_keys s = keys_of (live s)

-- the test of `IsActive`
abbrev pub is_active : State → KeyShape → Bool
is_active s key = list_any (λ r. same_key key r.key) (live s)
