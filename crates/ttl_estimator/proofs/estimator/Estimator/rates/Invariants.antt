use Rattle.std.proofs.Common.{◌≡◌, min, sum_by, take}
use Rattle.ttl_estimator.specs.Estimator.{rate_of}
use Rattle.ttl_estimator.proofs.estimator.Estimator.rates.Given as goal

abbrev pub invariant-loop-row : goal.invariant-loop-row
invariant-loop-row l = l.sum ≡ min 18446744073709551615 (sum_by (λ row. rate_of l.self l.now l.collection row.0) (take l.row-index l.window))
