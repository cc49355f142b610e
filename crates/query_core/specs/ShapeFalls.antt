-- Internal. Each operand has a smaller height than its filter.
use Rattle.std.specs.Prelude.{suc, ◌≤◌, ◌+◌, max, List, [], ◌∷◌}
use Rattle.std.proofs.Common.{arith}
use Rattle.query_core.specs.Filters.{Filter, height, operands_height, operands_of}
use Rattle.query_core.specs.Shape.{filter_of}
use Rattle.query_core.specs.declared.filter.Form.{Form}
use Rattle.query_core.specs.declared.filter.Form.TheVariants.{Constant, Compare, In, Has, Exists, Not, And, Or}
use Rattle.query_core.specs.declared.filter.Filter.TheDeep.{deep-Form}
use denote.Param.Weighed.{most}

operands_fall : (fs : List Filter) → most (λ f. height f + 1) fs ≤ suc (operands_height (operands_of fs))
operands_fall [] = omega arith
operands_fall (f ∷ fs) = omega (arith, operands_fall fs)

pub falls : (s : Form) → max (deep-Form s) 0 ≤ height (filter_of s)
falls (Constant b) = omega arith
falls (Compare p op v) = omega arith
falls (In p vs) = omega arith
falls (Has p v) = omega arith
falls (Exists p) = omega arith
falls (Not f) = omega arith
falls (And fs) = omega (arith, operands_fall fs.items)
falls (Or fs) = omega (arith, operands_fall fs.items)
