-- Believed. Which queries the language has: what their values are, and their limits.
use Rattle.std.specs.Prelude.{◌≡◌, ℕ, ◌+◌, ◌≤◌, List, length, Bool, true, false, ⊤, All}
use Rattle.std.specs.Str.{IsUtf8}
use Rattle.q_doc.specs.Tree.{Tree, null, boolean, number, text, array, object}
use Rattle.q_doc.specs.PathLength.{IsPath}
use Rattle.q_doc.specs.Document.{IsValue, HasTexts}
use Rattle.query_core.specs.declared.query.Query.{Query}
use Rattle.query_core.specs.Filters.{Filter, constant, compared, listed, having, present, negated, every, some, Operands, no_operands, operand, operand_list, height}

-- ---- the limits

-- the most atoms and listed values of a filter
abbrev pub most_leaves : ℕ
most_leaves = 256

-- the greatest height of a filter, where an atom has height 1
abbrev pub most_height : ℕ
most_height = 32

-- the most paths of an order
abbrev pub most_paths : ℕ
most_paths = 4

-- the most rows that are left out
abbrev pub most_skip : ℕ
most_skip = 10000

-- the most rows that are kept
abbrev pub most_take : ℕ
most_take = 1000

-- ---- the size of a filter

abbrev mutual
  -- the atoms and the listed values of a filter
  pub leaves : Filter → ℕ
  leaves (constant b) = 1
  leaves (compared p op v) = 1
  leaves (listed p vs) = 1 + length vs
  leaves (having p v) = 1
  leaves (present p) = 1
  leaves (negated f) = leaves f
  leaves (every fs) = operands_leaves fs
  leaves (some fs) = operands_leaves fs

  -- those of all operands
  pub operands_leaves : Operands → ℕ
  operands_leaves no_operands = 0
  operands_leaves (operand f fs) = leaves f + operands_leaves fs

-- ---- its parts

-- a text, a number, a truth value or null
abbrev pub is_scalar : Tree → Bool
is_scalar null = true
is_scalar (boolean b) = true
is_scalar (number z) = true
is_scalar (text s) = true
is_scalar (array ts) = false
is_scalar (object ms) = false

-- such a value, whose number fits 64 bits with a sign and whose text is UTF-8 (RFC 3629)
pub record IsScalar (v : Tree) : Type 0 where
  pub scalar : is_scalar v ≡ true
  pub value : IsValue v
  pub utf8 : HasTexts v

-- 1 to 8 segments, each UTF-8
pub record IsUtf8Path (path : List (List ℕ)) : Type 0 where
  pub length_fits : IsPath path
  pub utf8 : All IsUtf8 path

abbrev mutual
  -- paths and values are such, and two operands at least are joined
  pub IsFilter : Filter → Type 0
  IsFilter (constant b) = ⊤
  IsFilter (compared p op v) = IsUtf8Path p × IsScalar v
  IsFilter (listed p vs) = IsUtf8Path p × All IsScalar vs
  IsFilter (having p v) = IsUtf8Path p × IsScalar v
  IsFilter (present p) = IsUtf8Path p
  IsFilter (negated f) = IsFilter f
  IsFilter (every fs) = (2 ≤ length (operand_list fs)) × AreFilters fs
  IsFilter (some fs) = (2 ≤ length (operand_list fs)) × AreFilters fs

  -- each operand is such a filter
  pub AreFilters : Operands → Type 0
  AreFilters no_operands = ⊤
  AreFilters (operand f fs) = IsFilter f × AreFilters fs

-- ---- queries

-- a query of the language
pub record IsQuery (q : Query) : Type 0 where
  pub filter_is : IsFilter q.filter
  pub few_leaves : leaves q.filter ≤ most_leaves
  pub low : height q.filter ≤ most_height
  pub paths : All (λ p. IsUtf8Path p.0) q.order
  pub few_paths : length q.order ≤ most_paths
  pub skip_limit : q.skip ≤ most_skip
  pub take_some : 1 ≤ q.take
  pub take_limit : q.take ≤ most_take
