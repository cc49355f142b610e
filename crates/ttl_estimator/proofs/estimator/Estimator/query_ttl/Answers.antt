use Rattle.std.proofs.Common.{ℕ, ap, map, ◌∙◌}
use Rattle.ttl_estimator.specs.Estimator.{Estimated, rates_of}
use Rattle.ttl_estimator.specs.Lifetime.{poisson}
use Rattle.ttl_estimator.proofs.RateLemmas.{poisson_full}
use Rattle.ttl_estimator.proofs.estimator.Estimator.query_ttl.Goals as goal

-- the greatest sum counts as any sum above it
pub returns : goal.returns
returns c =
    let g = c.args.self.now.limits in
    c.poisson.ensures
    ∙ ap (λ (e : Estimated). poisson e.limits c.rates-rates.result) c.self.view_is
    ∙ ap (poisson g) c.rates-rates.ensures
    ∙ poisson_full g _
    ∙ ap (λ (now : ℕ). poisson g (rates_of c.args.self.now now c.args.collection.now (map (λ row. row.0) c.args.window.now))) c.seconds.ensures.same
