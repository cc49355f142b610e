use Rattle.std.proofs.Common.{ap, rules, inl}
use Rattle.std.specs.Map.{lookup}
use Rattle.query_normal.specs.Keys.{same_key}
use Rattle.ttl_estimator.specs.Estimates.{Entries}
use Rattle.ttl_estimator.proofs.EstimateLemmas.{keeps_new, same_kept}
use Rattle.ttl_estimator.proofs.estimates.Estimates.reserve.Goals as goal
use Rattle.ttl_estimator.proofs.estimates.Estimates.reserve.Goals.{in-Ok, in-Err}

-- the key was not there
pub returns-clause-keeps : goal.returns-clause-keeps
returns-clause-keeps c =
    rw (← c.self.view_is)
    (elim c.match-insert.branch [
      | in-Ok w ↦ keeps_new c.self.inside.keys.entries c.insert.new.self.entries c.in_ok-key.key (search rules) w.in-Ok.ensures.updates.0
      | in-Err w ↦ (λ other. inl (ap (λ (entries : Entries). lookup (same_key other) entries) w.in-Err.ensures.err))
    ])

-- so what is kept stays
pub returns-clause-kept : goal.returns-clause-kept
returns-clause-kept c = λ other. same_kept c.args.self.now c.insert.new.self.entries other (returns-clause-keeps c)
