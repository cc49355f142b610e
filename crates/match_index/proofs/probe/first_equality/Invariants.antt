-- none of the operands so far is an equality
use Rattle.std.proofs.Common.{◌≡◌, drop}
use Rattle.query_core.specs.Filters.{operands_of}
use Rattle.match_index.specs.Candidates.{first_equality}
use Rattle.match_index.proofs.probe.first_equality.Given as goal

abbrev pub invariant-loop-operand : goal.invariant-loop-operand
invariant-loop-operand l = first_equality (operands_of l.operands) ≡ first_equality (operands_of (drop l.operand-index l.operands))
