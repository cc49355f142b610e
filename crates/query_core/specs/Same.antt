-- Believed. Whether two queries are equal.
use Rattle.std.specs.Prelude.{ℕ, Bool, true, false, ◌&&◌, ◌==◌, List}
use Rattle.std.specs.Str.{bytes_eq}
use Rattle.std.specs.Cmp.Lexicographic.{pointwise}
use Rattle.query_core.specs.declared.operator.Op.{Op}
use Rattle.query_core.specs.declared.operator.Op.TheVariants.{Equal, Unequal, Less, AtMost, Greater, AtLeast}
use Rattle.query_core.specs.declared.query.Query.{Query}
use Rattle.query_core.specs.Filters.{Filter, constant, compared, listed, having, present, negated, every, some, Operands, no_operands, operand}
use Rattle.query_core.specs.Meaning.{same_value}
use Rattle.query_core.specs.Window.{Order}

-- lists of one length, equal item by item
abbrev pub same_list : {X : Type 0} → (X → X → Bool) → List X → List X → Bool
same_list = pointwise

-- equal truth values
abbrev pub same_truth : Bool → Bool → Bool
same_truth true true = true
same_truth false false = true
same_truth a b = false

-- the index of an operator among the six
abbrev pub op_number : Op → ℕ
op_number Equal = 0
op_number Unequal = 1
op_number Less = 2
op_number AtMost = 3
op_number Greater = 4
op_number AtLeast = 5

-- equal operators
abbrev pub same_op : Op → Op → Bool
same_op a b = op_number a == op_number b

-- paths of the same segments
abbrev pub same_path : List (List ℕ) → List (List ℕ) → Bool
same_path = pointwise bytes_eq

-- the equality of filters
abbrev mutual
  -- filters of one kind with equal parts
  pub same_filter : Filter → Filter → Bool
  same_filter (constant a) (constant b) = same_truth a b
  same_filter (compared p a v) (compared q b w) = same_path p q && same_op a b && same_value v w
  same_filter (listed p vs) (listed q ws) = same_path p q && same_list same_value vs ws
  same_filter (having p v) (having q w) = same_path p q && same_value v w
  same_filter (present p) (present q) = same_path p q
  same_filter (negated f) (negated g) = same_filter f g
  same_filter (every fs) (every gs) = same_operands fs gs
  same_filter (some fs) (some gs) = same_operands fs gs
  same_filter f g = false

  -- equal operand by operand
  pub same_operands : Operands → Operands → Bool
  same_operands no_operands no_operands = true
  same_operands (operand f fs) (operand g gs) = same_filter f g && same_operands fs gs
  same_operands fs gs = false

-- orders of the same paths in the same directions
abbrev pub same_order : Order → Order → Bool
same_order = same_list (λ p q. same_path p.0 q.0 && same_truth p.1 q.1)

-- queries with equal parts
abbrev pub same_query : Query → Query → Bool
same_query q r = bytes_eq q.collection r.collection && same_filter q.filter r.filter && same_order q.order r.order && q.skip == r.skip && q.take == r.take
