-- Internal. Until when copies of a key may be kept.
use Rattle.std.specs.Prelude.{ℕ, max, Bool, ◌&&◌, nat_le, nat_lt, List, [], ◌∷◌, filter, map}
use Rattle.query_normal.specs.Keys.{same_key}
use Rattle.query_normal.specs.declared.key.KeyShape.{KeyShape}
use Rattle.hub_model.specs.Copies.{live}
use Rattle.hub_model.specs.Record.{is_outdated_in}
use Rattle.hub_model.specs.State.{IssuedCopy, State, until_of}

-- the greatest of the numbers, or 0
abbrev pub greatest : List ℕ → ℕ
greatest [] = 0
greatest (n ∷ ns) = max n (greatest ns)

-- until when the last copy of the key that passes the test may be kept, or 0 without one
abbrev pub until_among : KeyShape → (IssuedCopy → Bool) → List IssuedCopy → ℕ
until_among key test copies = greatest (map until_of (filter (λ r. same_key key r.key && test r) copies))

-- among the unexpired copies of the key, of commits from one on and below another
abbrev pub latest_until : State → KeyShape → ℕ → ℕ → ℕ
latest_until s key from below = until_among key (λ r. nat_le from r.at && nat_lt r.at below) (live s)

-- among the unexpired outdated copies of the key: until then it stays in the record
abbrev pub until_of_outdated : State → KeyShape → ℕ
until_of_outdated s key = until_among key (is_outdated_in s) (live s)
