use Rattle.std.proofs.Common.{sym}
use Rattle.ttl_estimator.specs.Estimates.{after_purge}
use Rattle.ttl_estimator.proofs.EstimateLemmas.{known_after, unknown_after}
use Rattle.ttl_estimator.proofs.estimates.Estimates.note_purge.Goals as goal

-- a key without an entry has nothing
pub returns-in_default-clause-kept : goal.returns-in_default-clause-kept
returns-in_default-clause-kept c =
    rw (← c.self.view_is, c.get_mut.follows.holds-at-none)
    (unknown_after c.self.inside.keys.entries c.args.key.now (after_purge c.args.limits c.args.clock) (sym c.in_default.ensures.value))

-- the entry of the key was written
pub returns-clause-known : goal.returns-clause-known
returns-clause-known c =
    rw (← c.self.view_is)
    (known_after c.self.inside.keys _ c.args.key.now c.in-Some.kept.now c.purged.result (sym c.in-Some.ensures.value) (c.get_mut.follows.holds c.purged.result))
