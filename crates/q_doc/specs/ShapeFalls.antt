-- Internal. Each child of a node is less deep than the node.
use Rattle.std.specs.Prelude.{ℕ, suc, max, ◌+◌, ◌≤◌, List, [], ◌∷◌}
use Rattle.std.proofs.Common.{arith}
use denote.Param.Weighed.{most}
use Rattle.q_doc.specs.Tree.{Tree, depth, items_depth, members_depth, items_of, members_of}
use Rattle.q_doc.specs.Shape.{tree_of}
use Rattle.q_doc.specs.declared.node.Shape.{Shape}
use Rattle.q_doc.specs.declared.node.Shape.TheVariants.{Null, Bool, Number, Text, Array, Object}
use Rattle.q_doc.specs.declared.node.Node.TheDeep.{deep-Shape}

-- no element is deeper than the elements
pub items_fall : (ts : List Tree) → most (λ t. depth t + 1) ts ≤ suc (items_depth (items_of ts))
items_fall [] = omega arith
items_fall (t ∷ ts) = omega (arith, items_fall ts)

-- no member's value is deeper than the members
pub members_fall : (ms : List (List ℕ × Tree)) → most (λ m. max 0 (max (depth m.1 + 1) 0)) ms ≤ suc (members_depth (members_of ms))
members_fall [] = omega arith
members_fall (m ∷ ms) = omega (arith, members_fall ms)

-- a node is deeper than each of its children
pub falls : (s : Shape) → max (deep-Shape s) 0 ≤ depth (tree_of s)
falls Null = omega arith
falls (Bool b) = omega arith
falls (Number z) = omega arith
falls (Text s) = omega arith
falls (Array v) = omega (arith, items_fall v.items)
falls (Object v) = omega (arith, members_fall v.items)
