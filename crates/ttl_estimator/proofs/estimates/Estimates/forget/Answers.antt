use Rattle.std.proofs.Common.{rules}
use Rattle.ttl_estimator.proofs.EstimateLemmas.{forgotten_kept, known_kept}
use Rattle.ttl_estimator.proofs.estimates.Estimates.forget.Goals as goal

-- what is kept has an entry
pub returns-then-is_some-clause-known : goal.returns-then-is_some-clause-known
returns-then-is_some-clause-known c = known_kept c.args.self.now c.args.key.now (search rules)

-- nothing is kept of the key
pub returns-clause-kept : goal.returns-clause-kept
returns-clause-kept c =
    forgotten_kept c.args.self.now c.swap_remove.new.self.entries c.args.key.now (search rules)
    (rw (← c.self.view_is) c.swap_remove.ensures.updates.0)
