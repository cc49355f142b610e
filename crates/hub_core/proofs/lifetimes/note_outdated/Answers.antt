-- one key more
use Rattle.std.proofs.Common.{◌≡◌, option_map, if◌then◌else◌, ap, ◌∙◌, rules}
use Rattle.query_normal.specs.Keys.{same_key}
use Rattle.ttl_estimator.specs.declared.limits.Limits.{Limits}
use Rattle.ttl_estimator.specs.Estimates.{after_purge, kept_of}
use Rattle.ttl_estimator.specs.Estimator.{Estimated}
use Rattle.hub_core.proofs.NoteLemmas.{outdated-next}
use Rattle.hub_core.proofs.lifetimes.note_outdated.Goals as goal

pub loop-key-preserved : goal.loop-key-preserved
loop-key-preserved c =
    let l = c.loop-key in
    let limits : l.estimator.limits ≡ c.args.estimator.now.limits = ap (λ (e : Estimated). e.limits) l.invariant.rest in
    record {
      kept = λ key.
          outdated-next (kept_of c.args.estimator.now.keys) (kept_of l.estimator.keys) (kept_of c.note_outdated.new.self.keys) (after_purge c.args.estimator.now.limits c.args.clock) c.args.keys.now l.key-index c.key-item.result
          c.key-item.is c.loop-key-test.true c.requires l.invariant.kept
          (λ other. c.note_outdated.ensures.kept other ∙ ap (λ (g : Limits). if same_key c.key-item.result other then option_map (after_purge g c.args.clock) (kept_of l.estimator.keys c.key-item.result) else kept_of l.estimator.keys other) limits) key;
      known = λ key. c.note_outdated.ensures.known key ∙ l.invariant.known key;
      rest = search rules;
    }
