-- what was written is the sentence of that refusal
use Rattle.std.proofs.Common.{sym, ap}
use Rattle.std.proofs.Output.{has_written_of_eq}
use Rattle.hub_core.specs.ConfigRefusal.{sentence}
use Rattle.hub_core.proofs.config.ConfigRefusalDisplay.fmt.Goals as goal

pub returns-in-BadTtl-clause-writes : goal.returns-in-BadTtl-clause-writes
returns-in-BadTtl-clause-writes g c = λ plain ok. has_written_of_eq _ _ _ _ _ (sym (ap sentence c.in-BadTtl.is)) (c.write-in-BadTtl.ensures.writes plain ok)

pub returns-in-BadTtls-clause-writes : goal.returns-in-BadTtls-clause-writes
returns-in-BadTtls-clause-writes g c = λ plain ok. has_written_of_eq _ _ _ _ _ (sym (ap sentence c.in-BadTtls.is)) (c.write-in-BadTtls.ensures.writes plain ok)
