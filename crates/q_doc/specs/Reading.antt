-- Internal. What the fast path reads from a text.
use Rattle.std.specs.Prelude.{◌≡◌, ℕ, zero, suc, List, [], ◌∷◌, ℤ, Option, Some, option_and_then, ⊤}
use Rattle.std.specs.Ordering.{nat_cmp}
use Rattle.std.specs.declared.cmp.Ordering.TheVariants.{Less, Greater}
use Rattle.std.specs.Cmp.Lexicographic.{slice_cmp}
use Rattle.json.specs.Json as grammar
use Rattle.json.specs.Token.{Token}
use Rattle.serde_json.specs.Data as json
use Rattle.serde_json.specs.Find.{as_i64}
use Rattle.serde_json.specs.Read.{of_json, of_items, of_members, number_of}
use Rattle.q_doc.specs.Tree.{Tree, Items, Members}
use Rattle.q_doc.specs.Found.{found, whole, whole_items, whole_members}

-- how much deeper than a document the text of a JSON value may nest
abbrev pub BEYOND : ℕ
BEYOND = 95

-- the whole number that the text of a number writes, if it writes one
abbrev pub whole_in : List ℕ → Option ℤ
whole_in text = option_and_then as_i64 (number_of text)

-- the tree of a value of the grammar, where all its numbers are whole
abbrev pub tree_in : grammar.Json → Option Tree
tree_in j = option_and_then whole (of_json j)

-- the trees of elements
abbrev pub items_in : grammar.Items → Option Items
items_in js = option_and_then whole_items (of_items js)

-- the trees of members, of which the last of equal keys stays
abbrev pub members_in : grammar.Members → Option Members
members_in js = option_and_then whole_members (of_members js json.no_members)

-- some tokens parse as a part of the grammar, which gives this tree or these trees, and the rest is left
abbrev pub Reads : {J T : Type 0} → (J → Option T) → Option (J × List Token) → T → List Token → Type 0
Reads {J} tree parsed t rest = (j : J) × (parsed ≡ Some (j, rest)) × (tree j ≡ Some t)

-- a text holds a value that has this tree
abbrev pub HoldsWhole : List ℕ → Tree → Type 0
HoldsWhole bytes t = (d : json.Data) × (found bytes ≡ Some d) × (whole d ≡ Some t)

-- a new key is less than the member at the index and greater than those before it
abbrev pub IsIndexFor : List ℕ → ℕ → List (List ℕ × Tree) → Type 0
IsIndexFor k zero [] = ⊤
IsIndexFor k zero (m ∷ ms) = slice_cmp nat_cmp k m.0 ≡ Less
IsIndexFor k (suc p) [] = ⊥
IsIndexFor k (suc p) (m ∷ ms) = (slice_cmp nat_cmp k m.0 ≡ Greater) × IsIndexFor k p ms
