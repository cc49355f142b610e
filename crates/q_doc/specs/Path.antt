-- Believed. The value at a path: only objects are walked.
use Rattle.std.specs.Prelude.{ℕ, List, [], ◌∷◌, Option, Some, None, option_and_then, if◌then◌else◌}
use Rattle.std.specs.Str.{bytes_eq}
use Rattle.q_doc.specs.Tree.{Tree, null, boolean, number, text, array, object, Members, no_members, member}

-- the value of the first member with this key
abbrev pub value_at : List ℕ → Members → Option Tree
value_at key no_members = None
value_at key (member k t ms) = if bytes_eq k key then Some t else value_at key ms

-- the same of a value, which has no members unless it is an object
abbrev pub member_at : List ℕ → Tree → Option Tree
member_at key null = None
member_at key (boolean b) = None
member_at key (number z) = None
member_at key (text s) = None
member_at key (array ts) = None
member_at key (object ms) = value_at key ms

-- the value at a path, segment by segment
abbrev pub tree_at : List (List ℕ) → Tree → Option Tree
tree_at [] t = Some t
tree_at (key ∷ keys) t = option_and_then (tree_at keys) (member_at key t)
