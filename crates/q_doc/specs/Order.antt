-- Believed. The order of values: by type first, and then by value.
use Rattle.std.specs.Prelude.{ℕ, Option}
use Rattle.std.specs.Option.{option_cmp}
use Rattle.std.specs.Ordering.{ordering_then, nat_cmp, int_cmp, bool_cmp}
use Rattle.std.specs.declared.cmp.Ordering.{Ordering}
use Rattle.std.specs.declared.cmp.Ordering.TheVariants.{Less, Equal, Greater}
use Rattle.std.specs.Cmp.Lexicographic.{slice_cmp}
use Rattle.q_doc.specs.Tree.{Tree, null, boolean, number, text, array, object, Items, no_items, item, Members, no_members, member}

-- the rank of a value's type among the types
abbrev pub rank : Tree → ℕ
rank null = 0
rank (boolean b) = 1
rank (number z) = 2
rank (text s) = 3
rank (array ts) = 4
rank (object ms) = 5

-- the types decide, and else what is given
abbrev pub by_type : Tree → Tree → Ordering → Ordering
by_type t u order = ordering_then (nat_cmp (rank t) (rank u)) order

-- values of one type
abbrev mutual
  -- false before true, numbers by value, texts by their bytes, and `Equal` where the types differ
  pub alike_cmp : Tree → Tree → Ordering
  alike_cmp (boolean a) (boolean b) = bool_cmp a b
  alike_cmp (number a) (number b) = int_cmp a b
  alike_cmp (text a) (text b) = slice_cmp nat_cmp a b
  alike_cmp (array a) (array b) = items_cmp a b
  alike_cmp (object a) (object b) = members_cmp a b
  alike_cmp t u = Equal

  -- the first elements that differ decide, and a prefix is less than a longer array
  pub items_cmp : Items → Items → Ordering
  items_cmp no_items no_items = Equal
  items_cmp no_items (item u us) = Less
  items_cmp (item t ts) no_items = Greater
  items_cmp (item t ts) (item u us) = ordering_then (by_type t u (alike_cmp t u)) (items_cmp ts us)

  -- the same over pairs of a key and a value, the key first
  pub members_cmp : Members → Members → Ordering
  members_cmp no_members no_members = Equal
  members_cmp no_members (member l u us) = Less
  members_cmp (member k t ts) no_members = Greater
  members_cmp (member k t ts) (member l u us) =
      ordering_then (slice_cmp nat_cmp k l)
      (ordering_then (by_type t u (alike_cmp t u)) (members_cmp ts us))

-- the order of two values
abbrev pub tree_cmp : Tree → Tree → Ordering
tree_cmp t u = by_type t u (alike_cmp t u)

-- the order of values that may be absent: an absent one is the least
abbrev pub value_cmp : Option Tree → Option Tree → Ordering
value_cmp = option_cmp tree_cmp
