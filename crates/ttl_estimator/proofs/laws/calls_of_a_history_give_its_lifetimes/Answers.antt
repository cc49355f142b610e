use Rattle.ttl_estimator.proofs.HistoryLemmas.{kept_by_history, lifetime_by_history}
use Rattle.ttl_estimator.proofs.laws.calls_of_a_history_give_its_lifetimes.Goals as goal

pub returns : goal.returns
returns c = record { lifetimes = lifetime_by_history; estimates = kept_by_history }
