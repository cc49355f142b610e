use Rattle.std.proofs.Common.{ap, ◌∙◌, arith}
use Rattle.std.proofs.lemmas.List.Sums.{sum_by_more}
use Rattle.ttl_estimator.specs.Estimator.{Estimated, rate_of}
use Rattle.ttl_estimator.proofs.estimator.Estimator.rates.Goals as goal

-- one rate more
pub loop-row-preserved : goal.loop-row-preserved
loop-row-preserved c =
    let more = sum_by_more (λ row. rate_of c.args.self.now c.args.now c.args.collection.now row.0) c.args.window.now c.loop-row.row-index c.row-item.result c.loop-row-test.true in
    let read = ap (λ row. rate_of c.args.self.now c.args.now c.args.collection.now row.0) c.row-item.is in
    let own = c.rate.ensures ∙ ap (λ (e : Estimated). rate_of e c.args.now c.args.collection.now c.row-item.result.0) c.self.view_is in
    omega (arith, c.saturating_add-sum.ensures, c.loop-row.invariant, more, read, own)
