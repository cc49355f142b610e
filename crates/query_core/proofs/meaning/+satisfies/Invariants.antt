use Rattle.std.proofs.Common.{◌≡◌, ◌+◌, ◌*◌, drop}
use Rattle.query_core.specs.Filters.{height, operands_height, operands_of}
use Rattle.query_core.specs.Meaning.{satisfies_every, satisfies_some}
use Rattle.query_core.proofs.meaning.+satisfies.Given as goal

abbrev pub decreases-satisfies : goal.decreases-satisfies
decreases-satisfies l = 2 * height l.filter.now

abbrev pub decreases-satisfies_every : goal.decreases-satisfies_every
decreases-satisfies_every l = 2 * operands_height (operands_of l.operands.now) + 1

abbrev pub decreases-satisfies_some : goal.decreases-satisfies_some
decreases-satisfies_some l = 2 * operands_height (operands_of l.operands.now) + 1

abbrev pub invariant-satisfies_every-loop-operand : goal.invariant-satisfies_every-loop-operand
invariant-satisfies_every-loop-operand l = satisfies_every (operands_of l.operands) l.doc ≡ satisfies_every (operands_of (drop l.operand-index l.operands)) l.doc

abbrev pub invariant-satisfies_some-loop-operand : goal.invariant-satisfies_some-loop-operand
invariant-satisfies_some-loop-operand l = satisfies_some (operands_of l.operands) l.doc ≡ satisfies_some (operands_of (drop l.operand-index l.operands)) l.doc
