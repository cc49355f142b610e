-- the estimate of the key stays, or is gone
use Rattle.std.proofs.Common.{Bool, if◌then◌else◌, sym, ap, ◌∙◌}
use Rattle.query_normal.specs.Keys.{same_key}
use Rattle.ttl_estimator.specs.Estimates.{kept_of}
use Rattle.hub_core.specs.Lifetimes.{kept_while}
use Rattle.hub_core.proofs.NoteLemmas.{own-or}
use Rattle.hub_core.proofs.lifetimes.keep_while.Goals as goal

pub returns-then-active-clause-kept : goal.returns-then-active-clause-kept
returns-then-active-clause-kept c = λ other.
    own-or (kept_of c.args.estimator.now.keys) c.args.key.now other ∙ ap (λ (b : Bool). if same_key c.args.key.now other then kept_while b (kept_of c.args.estimator.now.keys c.args.key.now) else kept_of c.args.estimator.now.keys other) (sym c.if-active.true)

pub returns-clause-kept : goal.returns-clause-kept
returns-clause-kept c = λ other.
    c.note_idle.ensures.kept other ∙ ap (λ (b : Bool). if same_key c.args.key.now other then kept_while b (kept_of c.args.estimator.now.keys c.args.key.now) else kept_of c.args.estimator.now.keys other) (sym c.if-active.false)
