use Rattle.record_log.proofs.LawLemmas.{not_refused}
use Rattle.record_log.proofs.laws.records_are_not_refused.Goals as goal

-- frame by frame
pub returns : goal.returns
returns c = not_refused
