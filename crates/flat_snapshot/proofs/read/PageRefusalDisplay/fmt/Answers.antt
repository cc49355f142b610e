use Rattle.std.proofs.Common.{sym, ap}
use Rattle.std.proofs.Output.{has_written_of_eq}
use Rattle.flat_snapshot.specs.PageRefusal.{sentence}
use Rattle.flat_snapshot.proofs.read.PageRefusalDisplay.fmt.Goals as goal

-- what was written is the sentence of this refusal
pub returns-in-BadSize-clause-writes : goal.returns-in-BadSize-clause-writes
returns-in-BadSize-clause-writes g c = λ plain ok. has_written_of_eq _ _ _ _ _ (sym (ap sentence c.in-BadSize.is)) (c.write.ensures.writes plain ok)
