-- Believed. What a filter is.
use Rattle.std.specs.Prelude.{ℕ, suc, max, List, [], ◌∷◌, Bool}
use Rattle.q_doc.specs.Tree.{Tree}
use Rattle.query_core.specs.declared.operator.Op.{Op}

mutual
  -- true of all documents or of none; a comparison; one of several values; an element of an array; any value; and filters of filters
  pub data Filter : Type 0 where
    constant : Bool → Filter
    compared : List (List ℕ) → Op → Tree → Filter
    listed : List (List ℕ) → List Tree → Filter
    having : List (List ℕ) → Tree → Filter
    present : List (List ℕ) → Filter
    negated : Filter → Filter
    every : Operands → Filter
    some : Operands → Filter

  -- the filters that are joined, in order
  pub data Operands : Type 0 where
    no_operands : Operands
    operand : Filter → Operands → Operands

-- the operands of a list
abbrev pub operands_of : List Filter → Operands
operands_of [] = no_operands
operands_of (f ∷ fs) = operand f (operands_of fs)

-- the list of the operands
abbrev pub operand_list : Operands → List Filter
operand_list no_operands = []
operand_list (operand f fs) = f ∷ operand_list fs

-- how deep filters nest
abbrev mutual
  -- 1 for an atom, and one more than the greatest height of an operand
  pub height : Filter → ℕ
  height (constant b) = 1
  height (compared p op v) = 1
  height (listed p vs) = 1
  height (having p v) = 1
  height (present p) = 1
  height (negated f) = suc (height f)
  height (every fs) = suc (operands_height fs)
  height (some fs) = suc (operands_height fs)

  -- the greatest height of an operand, or 0
  pub operands_height : Operands → ℕ
  operands_height no_operands = 0
  operands_height (operand f fs) = max (height f) (operands_height fs)
