-- Believed. When a document satisfies a filter.
use Rattle.std.specs.Prelude.{Bool, true, false, not, ◌&&◌, ◌||◌, ◌==◌, List, Option, Some, None}
use Rattle.std.specs.List.{list_any}
use Rattle.std.specs.Ordering.{is_eq, is_lt, is_le, is_gt, is_ge}
use Rattle.std.specs.declared.cmp.Ordering.{Ordering}
use Rattle.q_doc.specs.Tree.{Tree, null, boolean, number, text, array, object, Items, no_items, item}
use Rattle.q_doc.specs.Order.{rank, tree_cmp}
use Rattle.q_doc.specs.Path.{tree_at}
use Rattle.query_core.specs.declared.operator.Op.{Op}
use Rattle.query_core.specs.declared.operator.Op.TheVariants.{Equal, Unequal, Less, AtMost, Greater, AtLeast}
use Rattle.query_core.specs.Filters.{Filter, constant, compared, listed, having, present, negated, every, some, Operands, no_operands, operand}

-- whether a comparison holds of two values in this order
abbrev pub op_holds : Op → Ordering → Bool
op_holds Equal o = is_eq o
op_holds Unequal o = not (is_eq o)
op_holds Less o = is_lt o
op_holds AtMost o = is_le o
op_holds Greater o = is_gt o
op_holds AtLeast o = is_ge o

-- whether two values are the same
abbrev pub same_value : Tree → Tree → Bool
same_value t u = is_eq (tree_cmp t u)

-- the value is there, has the type of v, and the comparison holds
abbrev pub compares : Op → Tree → Option Tree → Bool
compares op v None = false
compares op v (Some t) = rank t == rank v && op_holds op (tree_cmp t v)

-- the value is there, and is one of these
abbrev pub is_listed : List Tree → Option Tree → Bool
is_listed vs None = false
is_listed vs (Some t) = list_any (same_value t) vs

-- whether a value is one of the elements
abbrev pub has_item : Tree → Items → Bool
has_item v no_items = false
has_item v (item t ts) = same_value t v || has_item v ts

-- the value is an array with this element
abbrev pub has_value : Tree → Option Tree → Bool
has_value v None = false
has_value v (Some null) = false
has_value v (Some (boolean b)) = false
has_value v (Some (number z)) = false
has_value v (Some (text s)) = false
has_value v (Some (array ts)) = has_item v ts
has_value v (Some (object ms)) = false

-- the value is there, null too
abbrev pub is_there : Option Tree → Bool
is_there None = false
is_there (Some t) = true

-- the truth of filters
abbrev mutual
  -- whether a document satisfies a filter
  pub satisfies : Filter → Tree → Bool
  satisfies (constant b) t = b
  satisfies (compared p op v) t = compares op v (tree_at p t)
  satisfies (listed p vs) t = is_listed vs (tree_at p t)
  satisfies (having p v) t = has_value v (tree_at p t)
  satisfies (present p) t = is_there (tree_at p t)
  satisfies (negated f) t = not (satisfies f t)
  satisfies (every fs) t = satisfies_every fs t
  satisfies (some fs) t = satisfies_some fs t

  -- whether it satisfies each
  pub satisfies_every : Operands → Tree → Bool
  satisfies_every no_operands t = true
  satisfies_every (operand f fs) t = satisfies f t && satisfies_every fs t

  -- whether it satisfies one of them
  pub satisfies_some : Operands → Tree → Bool
  satisfies_some no_operands t = false
  satisfies_some (operand f fs) t = satisfies f t || satisfies_some fs t

-- the same of a document that may be absent: an absent one satisfies nothing
abbrev pub satisfies_if : Filter → Option Tree → Bool
satisfies_if f None = false
satisfies_if f (Some t) = satisfies f t
