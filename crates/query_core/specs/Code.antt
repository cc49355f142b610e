-- Internal. The code of a filter: the steps that build it on a stack.
use Rattle.std.specs.Prelude.{◌≡◌, ℕ, ◌==◌, List, [], ◌∷◌, true, false, if◌then◌else◌, refl}
use Rattle.std.proofs.Common.{ap, ◌∙◌}
use Rattle.std.specs.Coded.{Coded, code_by, coded×, coded_ℕ, coded_list}
use Rattle.q_doc.specs.Tree.{Tree}
use Rattle.q_doc.specs.Code.{tree_code}
use Rattle.query_core.specs.declared.operator.Op.{Op}
use Rattle.query_core.specs.declared.operator.Op.TheVariants.{Equal}
use Rattle.query_core.specs.contracts.operator.Op as op_rows
use Rattle.query_core.specs.Filters.{Filter, constant, compared, listed, having, present, negated, every, some, Operands, no_operands, operand}

-- an atom, or a joint of filters: its number, its path, its operator and its values
abbrev pub FilterStep : Type 0
FilterStep = ℕ × (List (List ℕ) × (Op × List Tree))

-- the code of a step
abbrev pub step_code : Coded FilterStep
step_code = coded× coded_ℕ (coded× (coded_list (coded_list coded_ℕ)) (coded× (op_rows.the_row.coded) (coded_list tree_code)))

-- a step that is its number alone
abbrev pub joint : ℕ → FilterStep
joint n = (n, ([], (Equal, [])))

-- the steps, before those that follow
abbrev mutual
  -- of a filter
  pub steps : Filter → List FilterStep → List FilterStep
  steps (constant b) rest = (if b then joint 0 else joint 1) ∷ rest
  steps (compared p op v) rest = (2, (p, (op, v ∷ []))) ∷ rest
  steps (listed p vs) rest = (3, (p, (Equal, vs))) ∷ rest
  steps (having p v) rest = (4, (p, (Equal, v ∷ []))) ∷ rest
  steps (present p) rest = (5, (p, (Equal, []))) ∷ rest
  steps (negated f) rest = steps f (joint 6 ∷ rest)
  steps (every fs) rest = operands_steps fs (joint 7 ∷ rest)
  steps (some fs) rest = operands_steps fs (joint 8 ∷ rest)

  -- of operands
  pub operands_steps : Operands → List FilterStep → List FilterStep
  operands_steps no_operands rest = joint 9 ∷ rest
  operands_steps (operand f fs) rest = operands_steps fs (steps f (joint 10 ∷ rest))

-- an item of the stack: a filter, or operands
pub data StackItem : Type 0 where
  one : Filter → StackItem
  many : Operands → StackItem

-- the part on top inside `not`, `and` or `or`
abbrev pub made : ℕ → List StackItem → List StackItem
made n (one f ∷ stack) = one (negated f) ∷ stack
made n (many fs ∷ stack) = (if n == 7 then one (every fs) else one (some fs)) ∷ stack
made n [] = []

-- the operand on top becomes the first of the operands below it
abbrev pub before : List StackItem → List StackItem
before (one f ∷ many fs ∷ stack) = many (operand f fs) ∷ stack
before stack = stack

-- the filter of the only value of a step
abbrev pub value_or : List Tree → (Tree → Filter) → Filter
value_or [] f = constant true
value_or (v ∷ vs) f = f v

-- the stack after a step
abbrev pub taken : FilterStep → List StackItem → List StackItem
taken s stack =
    if s.0 == 0 then one (constant true) ∷ stack
    else (if s.0 == 1 then one (constant false) ∷ stack
    else (if s.0 == 2 then one (value_or s.1.1.1 (compared s.1.0 s.1.1.0)) ∷ stack
    else (if s.0 == 3 then one (listed s.1.0 s.1.1.1) ∷ stack
    else (if s.0 == 4 then one (value_or s.1.1.1 (having s.1.0)) ∷ stack
    else (if s.0 == 5 then one (present s.1.0) ∷ stack
    else (if s.0 == 9 then many no_operands ∷ stack
    else (if s.0 == 10 then before stack
    else made s.0 stack)))))))

-- the stack after all steps
abbrev pub built : List FilterStep → List StackItem → List StackItem
built [] stack = stack
built (x ∷ xs) stack = built xs (taken x stack)

-- the filter on top
abbrev pub top : List StackItem → Filter
top (one f ∷ stack) = f
top _ = constant true

mutual
  -- the steps of a filter put it on top
  pub built-steps : (f : Filter) (rest : List FilterStep) (stack : List StackItem) → built (steps f rest) stack ≡ built rest (one f ∷ stack)
  built-steps (constant true) rest stack = refl
  built-steps (constant false) rest stack = refl
  built-steps (compared p op v) rest stack = refl
  built-steps (listed p vs) rest stack = refl
  built-steps (having p v) rest stack = refl
  built-steps (present p) rest stack = refl
  built-steps (negated f) rest stack = built-steps f (joint 6 ∷ rest) stack
  built-steps (every fs) rest stack = built-operands fs (joint 7 ∷ rest) stack
  built-steps (some fs) rest stack = built-operands fs (joint 8 ∷ rest) stack

  -- the steps of operands put them on top
  pub built-operands : (fs : Operands) (rest : List FilterStep) (stack : List StackItem) → built (operands_steps fs rest) stack ≡ built rest (many fs ∷ stack)
  built-operands no_operands rest stack = refl
  built-operands (operand f fs) rest stack = built-operands fs (steps f (joint 10 ∷ rest)) stack ∙ built-steps f (joint 10 ∷ rest) (many fs ∷ stack)

-- a filter is stored as its steps
abbrev pub filter_code : Coded Filter
filter_code = code_by (List FilterStep) (coded_list step_code) (λ f. steps f []) (λ xs. top (built xs [])) (λ f. ap top (built-steps f [] []))
