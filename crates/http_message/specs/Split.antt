-- Internal. A byte string as its items in turn.
use Rattle.std.specs.Prelude.{◌≡◌, ◌⊎◌, ℕ, ◌≤◌, Bool, true, false, List, [], ◌∷◌, ◌++◌, length, All}
use Rattle.std.specs.List.{flat_map}
use Rattle.http_message.specs.Item.{Item, closes, IsItem, IsOpen}

-- An item with its bytes.
pub record Piece : Type 0 where
  pub bytes : List ℕ
  pub item : Item

-- the bytes of these items, one after the other
abbrev pub bytes_of : List Piece → List ℕ
bytes_of pieces = flat_map (λ piece. piece.bytes) pieces

-- none but the last closes
abbrev pub OnlyLastCloses : List Piece → Type 0
OnlyLastCloses [] = Unit {0}
OnlyLastCloses (piece ∷ []) = Unit {0}
OnlyLastCloses (piece ∷ next ∷ pieces) = (closes piece.item ≡ false) × OnlyLastCloses (next ∷ pieces)

-- the last one closes
abbrev pub last_closes : List Piece → Bool
last_closes [] = false
last_closes (piece ∷ []) = closes piece.item
last_closes (piece ∷ next ∷ pieces) = last_closes (next ∷ pieces)

-- The bytes are these items and a rest: they end where one closes, or where there are `limit` of
-- them, or where no item is whole in what is left.
pub record IsSplit (limit : ℕ) (bytes : List ℕ) (pieces : List Piece) (rest : List ℕ) : Type 0 where
  pub all : bytes ≡ bytes_of pieces ++ rest
  pub each : All (λ piece. IsItem piece.bytes piece.item) pieces
  pub few : length pieces ≤ limit
  pub going : OnlyLastCloses pieces
  pub ends : (last_closes pieces ≡ true) ⊎ ((length pieces ≡ limit) ⊎ ((expected : Bool) × IsOpen rest expected))
