-- Believed. The values that documents are made of: numbers are whole, and an object is a list of members.
use Rattle.std.specs.Prelude.{ℕ, suc, max, ℤ, List, [], ◌∷◌, Bool, true, false}

mutual
  -- a value
  pub data Tree : Type 0 where
    null : Tree
    boolean : Bool → Tree
    number : ℤ → Tree
    text : List ℕ → Tree
    array : Items → Tree
    object : Members → Tree

  -- the elements of an array
  pub data Items : Type 0 where
    no_items : Items
    item : Tree → Items → Items

  -- the members of an object, each with its key
  pub data Members : Type 0 where
    no_members : Members
    member : List ℕ → Tree → Members → Members

-- the elements of a list
abbrev pub items_of : List Tree → Items
items_of [] = no_items
items_of (t ∷ ts) = item t (items_of ts)

-- the list of the elements
abbrev pub items_list : Items → List Tree
items_list no_items = []
items_list (item t ts) = t ∷ items_list ts

-- the members of a list of keys with their values
abbrev pub members_of : List (List ℕ × Tree) → Members
members_of [] = no_members
members_of (m ∷ ms) = member m.0 m.1 (members_of ms)

-- the list of the keys with their values
abbrev pub members_list : Members → List (List ℕ × Tree)
members_list no_members = []
members_list (member k t ms) = (k, t) ∷ members_list ms

-- whether a value is an object
abbrev pub is_object : Tree → Bool
is_object null = false
is_object (boolean b) = false
is_object (number z) = false
is_object (text s) = false
is_object (array ts) = false
is_object (object ms) = true

-- how deep arrays and objects nest: one of scalars has depth 1
abbrev mutual
  -- the depth of a value
  pub depth : Tree → ℕ
  depth null = 0
  depth (boolean b) = 0
  depth (number z) = 0
  depth (text s) = 0
  depth (array ts) = suc (items_depth ts)
  depth (object ms) = suc (members_depth ms)

  -- the greatest depth of an element, or 0
  pub items_depth : Items → ℕ
  items_depth no_items = 0
  items_depth (item t ts) = max (depth t) (items_depth ts)

  -- the greatest depth of a member's value, or 0
  pub members_depth : Members → ℕ
  members_depth no_members = 0
  members_depth (member k t ms) = max (depth t) (members_depth ms)
