use Rattle.std.proofs.Common.{arith, sym, ◌∙◌}
use Rattle.result_kinds.specs.Same.{same_version}
use Rattle.result_kinds.proofs.SameLemmas.{pairs_end}
use Rattle.result_kinds.proofs.same.same_versions.Goals as goal

-- the pairs were all the same, so the lengths decide
pub returns : goal.returns
returns c = sym (pairs_end same_version c.loop-i.i c.args.a.now c.args.b.now (omega arith)) ∙ sym c.loop-i.invariant
