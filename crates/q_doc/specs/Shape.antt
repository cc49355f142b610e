-- Internal. The value of a node, whose children are seen as their values already.
use Rattle.q_doc.specs.Tree.{Tree, null, boolean, number, text, array, object, items_of, members_of}
use Rattle.q_doc.specs.declared.node.Shape.{Shape}
use Rattle.q_doc.specs.declared.node.Shape.TheVariants.{Null, Bool, Number, Text, Array, Object}

-- one level of a value
abbrev pub tree_of : Shape → Tree
tree_of Null = null
tree_of (Bool b) = boolean b
tree_of (Number z) = number z
tree_of (Text s) = text s
tree_of (Array v) = array (items_of v.items)
tree_of (Object v) = object (members_of v.items)
