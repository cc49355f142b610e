-- Internal. What follows from the definitions alone.
use Rattle.std.specs.Prelude.{◌≡◌, ℕ, Bool, true, List, ◌++◌}
use Rattle.http_message.specs.Item.{Item, IsItem, IsOpen, ExpectsContinue}
use Rattle.http_message.specs.Split.{Piece, IsSplit}

-- a byte string begins with one item at most
abbrev pub OneItemFirst : Type 0
OneItemFirst =
    (first second rest others : List ℕ) (item other : Item) → IsItem first item → IsItem second other
    → first ++ rest ≡ second ++ others → (first ≡ second) × (item ≡ other)

-- bytes in which no item is whole begin with none
abbrev pub NoItemInOpen : Type 0
NoItemInOpen =
    (first rest : List ℕ) (item : Item) (expected : Bool) → IsItem first item → IsOpen (first ++ rest) expected → ⊥

-- such bytes expect `100 Continue` or do not, and do where they begin with a head that expects it
abbrev pub OneExpectation : Type 0
OneExpectation =
    (rest : List ℕ) (expected other : Bool) → IsOpen rest expected
    → (IsOpen rest other → expected ≡ other) × (ExpectsContinue rest → expected ≡ true)

-- a byte string has one split
abbrev pub OneSplit : Type 0
OneSplit =
    (limit : ℕ) (bytes : List ℕ) (pieces others : List Piece) (rest left : List ℕ)
    → IsSplit limit bytes pieces rest → IsSplit limit bytes others left
    → (pieces ≡ others) × (rest ≡ left)
