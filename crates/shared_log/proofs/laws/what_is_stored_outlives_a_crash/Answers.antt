-- the last moment of those since the last entry that says so, and all since each entry
use Rattle.shared_log.proofs.CrashLemmas.{outlives, outlives_since, outlives_opening}
use Rattle.shared_log.proofs.laws.what_is_stored_outlives_a_crash.Goals as goal

pub returns-clause-now : goal.returns-clause-now
returns-clause-now c = outlives

pub returns-clause-since : goal.returns-clause-since
returns-clause-since c = outlives_since

pub returns-clause-opening : goal.returns-clause-opening
returns-clause-opening c = outlives_opening
