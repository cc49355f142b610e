-- one invalidation more
use Rattle.std.proofs.Common.{◌∙◌, refl}
use Rattle.purge_list.specs.LastChanges.{change_of, is_known}
use Rattle.hub_core.proofs.NoteLemmas.{raised-next, raised-none}
use Rattle.hub_core.proofs.lifetimes.raise_all.Goals as goal

pub loop-invalidation-init : goal.loop-invalidation-init
loop-invalidation-init c = record {
  changes = λ key. raised-none (is_known c.args.changes.now key) (change_of c.args.changes.now key);
  known = λ key. refl;
}

pub loop-invalidation-preserved : goal.loop-invalidation-preserved
loop-invalidation-preserved c =
    let l = c.loop-invalidation in
    record {
      changes = λ key.
          raised-next c.args.changes.now l.changes c.raise.new.self c.args.invalidations.now l.invalidation-index c.invalidation-item.result c.invalidation-item.is c.loop-invalidation-test.true l.invariant.changes l.invariant.known c.raise.ensures.changes key;
      known = λ key. c.raise.ensures.known key ∙ l.invariant.known key;
    }
