use Rattle.ttl_estimator.proofs.CallLemmas.{rates_end, estimates_end, limits_end}
use Rattle.ttl_estimator.proofs.laws.calls_leave_rates_and_estimates.Goals as goal

pub returns : goal.returns
returns c = record { rates = rates_end; estimates = estimates_end; limits = limits_end }
