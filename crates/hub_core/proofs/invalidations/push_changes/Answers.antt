-- the loop goes commit by commit
use Rattle.std.proofs.Common.{ℕ, ◌==◌, ◌&&◌, refl, rules}
use Rattle.std.specs.List.{list_any}
use Rattle.query_normal.specs.Keys.{same_key}
use Rattle.hub_core.specs.Invalidations.{is_after, is_invalidation}
use Rattle.hub_core.proofs.MatchLemmas.{changes-next}
use Rattle.hub_core.proofs.invalidations.push_changes.Goals as goal

pub loop-commit-preserved : goal.loop-commit-preserved
loop-commit-preserved c = record {
  invalidations = λ other n.
      changes-next (λ (m : ℕ). is_after c.args.front c.args.to m && (m == n)) (same_key other c.args.key.now) c.args.changed.now c.loop-commit.commit-index _ (list_any (is_invalidation other n) c.args.invalidations.now.items)
      (list_any (is_invalidation other n) c.loop-commit.invalidations.items) _ c.loop-commit-test.true refl (c.loop-commit.invariant.invalidations other n) (c.in_ok-push_where_after.ensures.invalidations other n);
  reserved = λ was. c.in_ok-push_where_after.ensures.reserved (c.loop-commit.invariant.reserved was);
  within = λ was. c.in_ok-push_where_after.ensures.within (c.loop-commit.invariant.within was);
  rest = search rules;
}
