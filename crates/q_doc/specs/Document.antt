-- Internal. Which values are documents: objects within the limits, of whole numbers, whose keys are in order.
use Rattle.std.specs.Prelude.{◌≡◌, ℕ, ◌<◌, ◌≤◌, ◌^◌, ℤ, pos, negsuc, List, true, ⊤}
use Rattle.std.specs.Ordering.{nat_cmp}
use Rattle.std.specs.declared.cmp.Ordering.TheVariants.{Less}
use Rattle.std.specs.Cmp.Lexicographic.{slice_cmp}
use Rattle.std.specs.Str.{IsUtf8}
use Rattle.q_doc.specs.Tree.{Tree, null, boolean, number, text, array, object, Items, no_items, item, Members, no_members, member, is_object, depth}
use Rattle.q_doc.specs.Limits.{deepest_document}

-- the number fits 64 bits with a sign
abbrev pub FitsI64 : ℤ → Type 0
FitsI64 (pos n) = n < 2 ^ 63
FitsI64 (negsuc n) = n < 2 ^ 63

-- the key is less than the first key of the members
abbrev pub PrecedesMembers : List ℕ → Members → Type 0
PrecedesMembers k no_members = ⊤
PrecedesMembers k (member l t ms) = slice_cmp nat_cmp k l ≡ Less

-- each number fits, and the keys of each object rise by their bytes
abbrev mutual
  -- in a value
  pub IsValue : Tree → Type 0
  IsValue null = ⊤
  IsValue (boolean b) = ⊤
  IsValue (number z) = FitsI64 z
  IsValue (text s) = ⊤
  IsValue (array ts) = AreValues ts
  IsValue (object ms) = AreMembers ms

  -- in each element
  pub AreValues : Items → Type 0
  AreValues no_items = ⊤
  AreValues (item t ts) = IsValue t × AreValues ts

  -- in the members
  pub AreMembers : Members → Type 0
  AreMembers no_members = ⊤
  AreMembers (member k t ms) = PrecedesMembers k ms × IsValue t × AreMembers ms

-- each text and each key is UTF-8
abbrev mutual
  -- of a value
  pub HasTexts : Tree → Type 0
  HasTexts null = ⊤
  HasTexts (boolean b) = ⊤
  HasTexts (number z) = ⊤
  HasTexts (text s) = IsUtf8 s
  HasTexts (array ts) = ItemsHaveTexts ts
  HasTexts (object ms) = MembersHaveTexts ms

  -- of each element
  pub ItemsHaveTexts : Items → Type 0
  ItemsHaveTexts no_items = ⊤
  ItemsHaveTexts (item t ts) = HasTexts t × ItemsHaveTexts ts

  -- of each member
  pub MembersHaveTexts : Members → Type 0
  MembersHaveTexts no_members = ⊤
  MembersHaveTexts (member k t ms) = IsUtf8 k × HasTexts t × MembersHaveTexts ms

-- the value is a document
pub record IsPlainDocument (t : Tree) : Type 0 where
  pub object : is_object t ≡ true
  pub depth : depth t ≤ deepest_document
  pub value : IsValue t
