-- the estimates of the keys so far have learned
use Rattle.std.proofs.Common.{◌≡◌, take, option_map, if◌then◌else◌}
use Rattle.std.specs.List.{list_any}
use Rattle.query_normal.specs.Keys.{same_key}
use Rattle.query_normal.specs.declared.key.KeyShape.{KeyShape}
use Rattle.ttl_estimator.specs.Estimates.{after_purge, is_known, kept_of}
use Rattle.hub_core.proofs.lifetimes.note_outdated.Given as goal

abbrev pub invariant-loop-key : goal.invariant-loop-key
invariant-loop-key l = record {
  kept : (key : KeyShape) → kept_of l.estimator.keys key ≡ (if list_any (same_key key) (take l.key-index l.keys) then option_map (after_purge l.initial.estimator.limits l.clock) (kept_of l.initial.estimator.keys key) else kept_of l.initial.estimator.keys key);
  known : (key : KeyShape) → is_known l.estimator.keys key ≡ is_known l.initial.estimator.keys key;
  rest : l.estimator ≡ record l.initial.estimator { keys = l.estimator.keys };
}
