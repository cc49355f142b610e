-- the log and the pending batch are those of the value
use Rattle.std.proofs.Common.{rules}
use Rattle.shared_log.proofs.StandLemmas.{take_done}
use Rattle.shared_log.proofs.log_value.LogValue.take_out.Goals as goal

pub returns-clause-taken : goal.returns-clause-taken
returns-clause-taken g c = take_done _ _ _ c.in-Some.log c.replace-batch.new.dest c.replace-batch.result (search rules) c.self.view_is (search rules) (search rules) (search rules) (search rules) (search rules)
