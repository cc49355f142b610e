use Rattle.record_log.proofs.LawLemmas.{two_batches}
use Rattle.record_log.proofs.laws.one_sync_serves_two_batches.Goals as goal

pub returns : goal.returns
returns c = two_batches
