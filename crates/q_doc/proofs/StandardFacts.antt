-- The order of values and the walk along a path, on small values.
use Rattle.std.proofs.Common.{◌≡◌, pos, negsuc, [], ◌∷◌, true, false, Some, None, Less, Equal, refl}
use Rattle.std.specs.Prelude.{codes}
use Rattle.q_doc.specs.Tree.{null, boolean, number, text, array, object, no_items, item, no_members, member}
use Rattle.q_doc.specs.Order.{value_cmp}
use Rattle.q_doc.specs.Path.{tree_at}

-- absent, null, false, true, numbers, texts, arrays, objects
pub types_in_order : (value_cmp None (Some null) ≡ Less)
    × (value_cmp (Some null) (Some (boolean false)) ≡ Less)
    × (value_cmp (Some (boolean false)) (Some (boolean true)) ≡ Less)
    × (value_cmp (Some (boolean true)) (Some (number (negsuc 9))) ≡ Less)
    × (value_cmp (Some (number (pos 10))) (Some (text [])) ≡ Less)
    × (value_cmp (Some (text (codes "z"))) (Some (array no_items)) ≡ Less)
    × (value_cmp (Some (array (item (object no_members) no_items))) (Some (object no_members)) ≡ Less)
types_in_order = (refl, refl, refl, refl, refl, refl, refl)

-- numbers by value, texts by their bytes, a prefix before a longer array, keys before values
pub values_in_order : (value_cmp (Some (number (negsuc 9))) (Some (number (pos 2))) ≡ Less)
    × (value_cmp (Some (number (pos 2))) (Some (number (pos 10))) ≡ Less)
    × (value_cmp (Some (text (codes "B"))) (Some (text (codes "a"))) ≡ Less)
    × (value_cmp (Some (array (item null no_items))) (Some (array (item null (item null no_items)))) ≡ Less)
    × (value_cmp (Some (object (member (codes "a") (number (pos 9)) no_members))) (Some (object (member (codes "b") (number (pos 1)) no_members))) ≡ Less)
    × (value_cmp (Some (object (member (codes "a") null no_members))) (Some (object (member (codes "a") null no_members))) ≡ Equal)
values_in_order = (refl, refl, refl, refl, refl, refl)

-- a path walks objects, and ends where a key is absent or a value is no object
pub walks : (tree_at (codes "a" ∷ codes "b" ∷ []) (object (member (codes "a") (object (member (codes "b") null no_members)) no_members)) ≡ Some null)
    × (tree_at (codes "b" ∷ []) (object (member (codes "a") null no_members)) ≡ None)
    × (tree_at (codes "a" ∷ codes "b" ∷ []) (object (member (codes "a") (array no_items) no_members)) ≡ None)
walks = (refl, refl, refl)
